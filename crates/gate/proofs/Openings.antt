-- What the answer to opening says, test by test.
use Rattle.std.proofs.Common.{◌≡◌, ℕ, zero, suc, ◌<◌, ◌≤◌, Bool, true, false, cond, eqb, ltb, List, [], ◌∷◌, map, length, Some, None, Option, Ok, Err, Result, sym, refl, ap, ◌∙◌, subst, arith}
use Rattle.std.proofs.lemmas.List.{length-map}
use Rattle.std.proofs.lemmas.Bool.{cond_both, cond-false, cond-true, le-ltb, ltb-false}
use Rattle.std.specs.List.{AllByRecursion}
use Rattle.std.specs.Result.{IsErrAnd}
use Rattle.arrivals.specs.Clock.{last_reading}
use Rattle.fit.proofs.FirstMisfit.{search_finds}
use Rattle.fit.proofs.Fresh.{fresh_well_formed, tasks_fresh_formed}
use Rattle.fit.proofs.FreshSound.{fresh_sound}
use Rattle.fit.specs.Fit.{FirstMisfit}
use Rattle.fit.specs.Search.{first_misfit}
use Rattle.fit.specs.WellFormed.{LaneFormed, TaskFormed}
use Rattle.fit.specs.State.{StateModel, fresh_state, none}
use Rattle.lanes.proofs.Fresh.{tasks_of_fresh}
use Rattle.lanes.specs.Lane.{fresh_lane}
use Rattle.tasks.specs.Reply.{Refusal, Reply, plain, refused, reply, served, then}
use Rattle.state.specs.State.{opened}
use Rattle.state.proofs.Idle.{none_by_length}
use Rattle.tasks.specs.Task.{TaskModel, task_of}
use Rattle.tasks.specs.declared.task.Task.{Task}
use Rattle.tasks.specs.TaskSet.{shares}
use Rattle.gate.specs.Opening.{allowed, open_answer, unless_misfit}
use Rattle.gate.specs.OpensRightly.{OpensRightly}
use Rattle.gate.specs.OpenRefusal.{open_refusal}
use Rattle.gate.specs.declared.refusal.OpenRefusal.{OpenRefusal}
use Rattle.gate.specs.declared.refusal.OpenRefusal.TheVariants.{Misfit, NoTask, ReadingTooLate, SharesTooLarge}

-- the refusal of an answer, where it is one
abbrev refusal_of : Reply ℕ → Refusal
refusal_of (served n) = plain 0
refusal_of (refused r) = r

abbrev first_of : List ℕ → ℕ
first_of [] = 0
first_of (n ∷ ns) = n

module _ (reading : ℕ) (ts : List TaskModel) (ok : AllByRecursion TaskFormed ts) (few : length ts ≤ 8) where
  -- a refusal before the tasks are weighed
  by_number : (n : ℕ) → n < 7 → OpensRightly reading ts (refused (plain n))
  by_number n early =
      record {
        misfit = λ k e. let same : n ≡ 7 = ap (λ a. (refusal_of a).number) e in absurd (omega arith);
        nothing = λ e. let same : n ≡ 8 = ap (λ a. (refusal_of a).number) e in absurd (omega arith);
        fits = λ s. absurd s;
        sound = λ s. absurd s;
        formed = λ s. absurd s;
      }

  module _ (light : shares ts ≤ 960) (readable : reading ≤ last_reading) where
    formed_lanes : AllByRecursion LaneFormed (map fresh_lane ts)
    formed_lanes = tasks_fresh_formed ts ok

    found : FirstMisfit reading 0 (map fresh_lane ts) (first_misfit reading 0 (map fresh_lane ts))
    found = search_finds reading 0 (map fresh_lane ts) formed_lanes (subst (λ (us : List TaskModel). shares us ≤ 960) (sym (tasks_of_fresh ts)) light)

    named : (k : ℕ) → FirstMisfit reading 0 (map fresh_lane ts) (Some k) → OpensRightly reading ts (refused (open_refusal (Misfit k)))
    named k first =
        record {
          misfit = λ j e. let same : k ≡ j = ap (λ a. first_of (refusal_of a).values) e in subst (λ (i : ℕ). FirstMisfit reading 0 (map fresh_lane ts) (Some i)) same first;
          nothing = λ e. let same : ◌≡◌ {A = ℕ} 7 8 = ap (λ a. (refusal_of a).number) e in absurd (omega arith);
          fits = λ s. absurd s;
          sound = λ s. absurd s;
          formed = λ s. absurd s;
        }

    opens : (n : ℕ) → FirstMisfit reading 0 (map fresh_lane ts) None → OpensRightly reading ts (allowed n)
    opens zero fits =
        record {
          misfit = λ k e. let same : ◌≡◌ {A = ℕ} 8 7 = ap (λ a. (refusal_of a).number) e in absurd (omega arith);
          nothing = λ e. fits;
          fits = λ s. absurd s;
          sound = λ s. absurd s;
          formed = λ s. absurd s;
        }
    opens (suc n) fits =
        record {
          misfit = λ k e. let z : ◌≡◌ {A = ℕ} 0 1 = cc in absurd (omega arith);
          nothing = λ e. let z : ◌≡◌ {A = ℕ} 0 1 = cc in absurd (omega arith);
          fits = λ s. fits;
          sound = λ s. fresh_sound reading ts formed_lanes light fits;
          formed = λ s. fresh_well_formed reading ts formed_lanes light readable few;
        }

    weighed : (o : Option ℕ) (n : ℕ) → FirstMisfit reading 0 (map fresh_lane ts) o → OpensRightly reading ts (unless_misfit o (allowed n))
    weighed None n first = opens n first
    weighed (Some k) n first = named k first

  -- the answer to opening is right
  pub opens_rightly : (meaning : StateModel → ℕ) → OpensRightly reading ts (open_answer meaning reading ts)
  opens_rightly meaning =
      cond_both (none ts) (refused (open_refusal NoTask)) _ (OpensRightly reading ts) (λ e. by_number 4 (omega arith))
      (λ e.
      cond_both (ltb last_reading reading) (refused (open_refusal ReadingTooLate)) _ (OpensRightly reading ts) (λ late. by_number 5 (omega arith))
      (λ early.
      cond_both (ltb 960 (shares ts)) (refused (open_refusal SharesTooLarge)) _ (OpensRightly reading ts) (λ heavy. by_number 6 (omega arith))
      (λ light.
      let small : shares ts ≤ 960 = ltb-false 960 (shares ts) light in
      let readable : reading ≤ last_reading = ltb-false last_reading reading early in
      weighed small readable (first_misfit reading 0 (map fresh_lane ts)) (meaning (fresh_state reading ts)) (found small readable))))

-- Two tests, the first of which refuses with p and the second with q, before a state is served and before what comes after.
module _ (p q : Refusal) (fresh : StateModel) (after : Reply ℕ) where
  abbrev made : Bool → Bool → Reply StateModel
  made late heavy = cond late (refused p) (cond heavy (refused q) (served fresh))

  abbrev answered : Bool → Bool → Reply ℕ
  answered late heavy = cond late (refused p) (cond heavy (refused q) after)

  made_then : (late heavy : Bool) (s : StateModel) → served s ≡ made late heavy → (answered late heavy ≡ after) × (s ≡ fresh)
  made_then true heavy s e = let z : ◌≡◌ {A = ℕ} 0 1 = cc in absurd (omega arith)
  made_then false true s e = let z : ◌≡◌ {A = ℕ} 0 1 = cc in absurd (omega arith)
  made_then false false s e = (refl, cc)

  not_made_then : (late heavy : Bool) (r : Refusal) → refused r ≡ made late heavy → answered late heavy ≡ refused r
  not_made_then true heavy r e = let same : r ≡ p = cc in ap refused (sym same)
  not_made_then false true r e = let same : r ≡ q = cc in ap refused (sym same)
  not_made_then false false r e = let z : ◌≡◌ {A = ℕ} 0 1 = cc in absurd (omega arith)

-- the answer once a test is known
module _ (meaning : StateModel → ℕ) (reading : ℕ) (ts : List TaskModel) where
  pub no_task : none ts ≡ true → open_answer meaning reading ts ≡ refused (open_refusal NoTask)
  no_task e = cond-true (none ts) _ _ e

  abbrev pub weighing : Reply ℕ
  weighing = unless_misfit (first_misfit reading 0 (map fresh_lane ts)) (allowed (meaning (fresh_state reading ts)))

  pub then_weighed : none ts ≡ false → reading ≤ last_reading → shares ts ≤ 960 → open_answer meaning reading ts ≡ weighing
  then_weighed there early light =
      cond-false (none ts) _ _ there ∙ cond-false (ltb last_reading reading) _ _ (le-ltb last_reading reading early) ∙ cond-false (ltb 960 (shares ts)) _ _ (le-ltb 960 (shares ts) light)

  -- there is no state to open with
  pub then_refused : (r : Refusal) → none ts ≡ false → refused r ≡ opened reading ts → open_answer meaning reading ts ≡ refused r
  then_refused r there e =
      cond-false (none ts) _ _ there ∙ not_made_then (open_refusal ReadingTooLate) (open_refusal SharesTooLarge) (fresh_state reading ts) weighing (ltb last_reading reading) (ltb 960 (shares ts)) r e

  -- the state is made, every task fits and the rule was asked
  pub then_allowed : (n : ℕ) (s : StateModel) → none ts ≡ false → served s ≡ opened reading ts → None ≡ first_misfit s.clock 0 s.lanes → n ≡ meaning s
      → (s ≡ fresh_state reading ts) × (open_answer meaning reading ts ≡ allowed n)
  then_allowed n s there e fits asked =
      let parts = made_then (open_refusal ReadingTooLate) (open_refusal SharesTooLarge) (fresh_state reading ts) weighing (ltb last_reading reading) (ltb 960 (shares ts)) s e in
      let none_misfit : first_misfit reading 0 (map fresh_lane ts) ≡ None = sym (fits ∙ ap (λ (u : StateModel). first_misfit u.clock 0 u.lanes) parts.1) in (
        parts.1,
        cond-false (none ts) _ _ there ∙ parts.0 ∙ ap (λ o. unless_misfit o (allowed (meaning (fresh_state reading ts)))) none_misfit ∙ ap allowed (sym (asked ∙ ap meaning parts.1)),
      )

-- a refusal that is passed on keeps its number and its values
pub refused_on : {T A : Type 0} (view : T → A) (r : Refusal) (o : Result T OpenRefusal) → IsErrAnd o (λ e. open_refusal e ≡ r) → reply view open_refusal o ≡ refused r
refused_on view r (Ok x) h = absurd h
refused_on view r (Err e) h = ap refused h

-- whether there are tasks, as the code asks
pub tasks_there : (xs : List Task) (ts : List TaskModel) (b : Bool) → map task_of xs ≡ ts → b ≡ eqb (length xs) 0 → none ts ≡ b
tasks_there xs ts b e test = sym (none_by_length ts) ∙ ap (λ n. eqb n 0) (sym (ap length e) ∙ length-map xs task_of) ∙ sym test

-- an allowance that is not 0 is served
pub allowed_above : (n : ℕ) → (n ≡ 0 → ⊥) → allowed n ≡ served n
allowed_above zero h = absurd (h refl)
allowed_above (suc n) h = refl

abbrev pair_of : StateModel × ℕ → Reply (StateModel × ℕ) → StateModel × ℕ
pair_of other (served p) = p
pair_of other (refused r) = other

-- what was prepared tells what opening answers
pub prepared_served : (a : Reply ℕ) (s fresh : StateModel) (n : ℕ) → ◌≡◌ {A = Reply (StateModel × ℕ)} (served (s, n)) (then a (λ k. served (fresh, k))) → (a ≡ served n) × (s ≡ fresh)
prepared_served (served k) s fresh n e = (ap served (sym (ap (λ r. (pair_of (s, n) r).1) e)), ap (λ r. (pair_of (s, n) r).0) e)
prepared_served (refused r) s fresh n e = let z : ◌≡◌ {A = ℕ} 0 1 = cc in absurd (omega arith)

pub prepared_refused : (a : Reply ℕ) (r : Refusal) (fresh : StateModel) → ◌≡◌ {A = Reply (StateModel × ℕ)} (refused r) (then a (λ k. served (fresh, k))) → a ≡ refused r
prepared_refused (served k) r fresh e = let z : ◌≡◌ {A = ℕ} 0 1 = cc in absurd (omega arith)
prepared_refused (refused q) r fresh e = let same : r ≡ q = cc in ap refused (sym same)
