-- The exact, the line and the fixed rule keep the laws: within the exact allowance, and when idle at least as when freshly opened.
use Rattle.std.proofs.Common.{◌≡◌, ℕ, ◌+◌, ◌-◌, ◌*◌, ◌≤◌, Bool, true, false, cond, leb, List, [], ◌∷◌, map, sym, refl, ap, ◌∙◌, subst, inl, inr, arith}
use Rattle.std.proofs.lemmas.Bool.{and_parts, cond_both, leb-true}
use Rattle.std.specs.List.{AllByRecursion}
use Rattle.arrivals.specs.Bucket.{full, long_bucket}
use Rattle.tasks.specs.Staircase.{StaircaseModel, long_staircase, longer, longest, longest_by}
use Rattle.tasks.specs.Task.{TaskModel, share}
use Rattle.fit.proofs.Fresh.{all_fresh_formed, fresh_by_tasks, fresh_light}
use Rattle.fit.proofs.Allowances.{exact_bound, exact_fits, exact_most, line_most, line_passes}
use Rattle.fit.proofs.Counting.{arrivals_at_none}
use Rattle.fit.proofs.Fitting.{idle_all_fit, idle_demand, idle_load}
use Rattle.fit.proofs.Rates.{line_covers_load, line_load_rate}
use Rattle.lanes.specs.Demand.{demand, load}
use Rattle.fit.specs.Exact.{exact, fresh_allowance_of}
use Rattle.fit.specs.Fit.{AllFit}
use Rattle.fit.specs.Fixed.{fixed, fixed_of}
use Rattle.tasks.specs.TaskSet.{long_burst}
use Rattle.lanes.specs.Job.{backlog}
use Rattle.lanes.proofs.Fresh.{tasks_of_fresh}
use Rattle.lanes.specs.Lane.{LaneModel, fresh_lane, fresh_lanes}
use Rattle.fit.specs.Laws.{Laws}
use Rattle.fit.specs.Line.{AllPass, line}
use Rattle.lanes.specs.Line.{line_load}
use Rattle.fit.specs.Greatest.{Greatest}
use Rattle.fit.specs.Sound.{Sound}
use Rattle.fit.specs.WellFormed.{LaneFormed, WellFormed}
use Rattle.fit.specs.State.{StateModel, fresh_state, idle, none, none_pending, released_work, state_tasks, work_of}
use Rattle.lanes.specs.declared.released.Released.{Released}

-- the greatest amount that has P is at most x if this follows from its having P: where no amount has P it is 0
greatest_at_most : (P : ℕ → Type 0) (r x : ℕ) → Greatest P r → (P r → r ≤ x) → r ≤ x
greatest_at_most P r x g h =
    elim g.which [
      | inl f ↦ h ((f r g.top).1 (omega arith))
      | inr f ↦ omega (arith, f.1)
    ]

-- the exact rule

exact_renewed : (s : StateModel) (reading : ℕ) → WellFormed s → idle s ≡ true → exact (fresh_state reading (state_tasks s)) ≤ exact s
exact_renewed s reading ok rest =
    let w : ℕ = exact (fresh_state reading (state_tasks s)) in
    greatest_at_most (λ v. AllFit reading v (λ y. 0) (map fresh_lane (state_tasks s))) w (exact s)
    (exact_fits reading (map fresh_lane (state_tasks s)) (all_fresh_formed s.lanes ok.lanes) (fresh_light s.lanes ok.light))
    (λ fit. exact_most s.clock w s.lanes (exact_bound reading (map fresh_lane (state_tasks s)))
    (idle_all_fit reading s.clock w w (λ y. 0) (λ y. 0) s.lanes (omega arith) ok.lanes (and_parts (none_pending s.lanes) (none s.released) rest).0
    (λ y. omega arith) (subst (AllFit reading w (λ y. 0)) (fresh_by_tasks s.lanes) fit)))

pub exact_laws : Laws exact
exact_laws = record { within = λ s ok good. omega arith; renewed = λ s reading h ok good rest. exact_renewed s reading ok rest }

-- the line rule

-- tasks that pass also fit: a line lies above the load
pass_fits : (now w : ℕ) (I A : ℕ → ℕ) (ls : List LaneModel) → AllByRecursion LaneFormed ls → ((y : ℕ) → 1024 * I y ≤ A y) → AllPass now w A ls → AllFit now w I ls
pass_fits now w I A [] ok above pass = tt
pass_fits now w I A (l ∷ ls) ok above pass = (
  (λ Δ some. (Δ, omega arith, omega (arith, pass.0 Δ some, above Δ))),
  pass_fits now w (λ y. I y + load l y) (λ y. A y + line_load l y) ls ok.1 (λ y. omega (arith, above y, line_covers_load l ok.0 y)) pass.1,
)

line_within : (s : StateModel) → WellFormed s → line s ≤ exact s
line_within s ok =
    let g = line_passes s.clock s.lanes ok.lanes ok.light in
    greatest_at_most (λ w. AllPass s.clock w (λ y. 0) s.lanes) (line s) (exact s) g
    (λ pass. exact_most s.clock (line s) s.lanes g.top (pass_fits s.clock (line s) (λ y. 0) (λ y. 0) s.lanes ok.lanes (λ y. omega arith) pass))

-- the long bucket of a fresh lane is a full one
chosen_full : (b : Bool) (s t : StaircaseModel) → cond b (full s) (full t) ≡ full (cond b s t)
chosen_full true s t = refl
chosen_full false s t = refl

longest_full : (s : StaircaseModel) (ss : List StaircaseModel) → longest_by (λ b. b.staircase) (full s) (map full ss) ≡ full (longest s ss)
longest_full s [] = refl
longest_full s (t ∷ ts) = ap (λ b. longest_by (λ c. c.staircase) b (map full ts)) (chosen_full (longer t s) t s) ∙ longest_full (cond (longer t s) t s) ts

long_full : (ss : List StaircaseModel) → long_bucket (map full ss) ≡ full (long_staircase ss)
long_full [] = refl
long_full (s ∷ ss) = longest_full s ss

-- the line of a fresh task begins with a burst
fresh_line : (t : TaskModel) (y : ℕ) → 1024 * (t.limit * long_burst t) + share t * y ≤ line_load (fresh_lane t) y
fresh_line t y = rw (long_full t.staircases) (omega arith)

-- with nothing pending the line begins with at most a burst
idle_line : (l : LaneModel) (y : ℕ) → LaneFormed l → none l.pending ≡ true → line_load l y ≤ line_load (fresh_lane l.task) y
idle_line l y ok rest =
    let nothing : backlog l.pending ≤ 0 =
    omega (arith, idle_load l 0 ok rest, ap (λ n. l.task.limit * n) (arrivals_at_none (map full l.task.staircases))) in
    omega (arith, line_load_rate l ok y, fresh_line l.task y)

-- lanes with nothing pending pass as when fresh
idle_all_pass : (opened now w : ℕ) (A B : ℕ → ℕ) (ls : List LaneModel) → AllByRecursion LaneFormed ls → none_pending ls ≡ true → ((y : ℕ) → A y ≤ B y)
    → AllPass opened w B (fresh_lanes ls) → AllPass now w A ls
idle_all_pass opened now w A B [] ok rest fewer pass = tt
idle_all_pass opened now w A B (l ∷ ls) ok rest fewer pass =
    let parts = and_parts (none l.pending) (none_pending ls) rest in
    let less : (Δ : ℕ) → demand now l Δ ≤ demand opened (fresh_lane l.task) Δ = λ Δ. idle_demand opened now l Δ ok.0 parts.0 in (
      (λ Δ some. omega (arith, less Δ, fewer Δ, pass.0 Δ (omega (arith, less Δ)))),
      idle_all_pass opened now w (λ y. A y + line_load l y) (λ y. B y + line_load (fresh_lane l.task) y) ls ok.1 parts.1
          (λ y. omega (arith, fewer y, idle_line l y ok.0 parts.0)) pass.1,
    )

line_renewed : (s : StateModel) (reading : ℕ) → WellFormed s → idle s ≡ true → line (fresh_state reading (state_tasks s)) ≤ line s
line_renewed s reading ok rest =
    let w : ℕ = line (fresh_state reading (state_tasks s)) in
    let g = line_passes reading (map fresh_lane (state_tasks s)) (all_fresh_formed s.lanes ok.lanes) (fresh_light s.lanes ok.light) in
    greatest_at_most (λ v. AllPass reading v (λ y. 0) (map fresh_lane (state_tasks s))) w (line s) g
    (λ pass. line_most s.clock w s.lanes g.top
    (idle_all_pass reading s.clock w (λ y. 0) (λ y. 0) s.lanes ok.lanes (and_parts (none_pending s.lanes) (none s.released) rest).0
    (λ y. omega arith) (subst (AllPass reading w (λ y. 0)) (fresh_by_tasks s.lanes) pass)))

pub line_laws : Laws line
line_laws = record { within = λ s ok good. line_within s ok; renewed = λ s reading h ok good rest. line_renewed s reading ok rest }

-- the fixed rule

-- every task fits with what the cost granted leaves of the fresh allowance, as with the released work
fixed_within : (s : StateModel) → Sound s → fixed s ≤ exact s
fixed_within s good =
    let w0 : ℕ = fresh_allowance_of (state_tasks s) in
    cond_both (leb s.granted w0) (released_work s + w0 - s.granted) (released_work s) (λ w. w ≤ exact s)
    (λ e. exact_most s.clock (released_work s + w0 - s.granted) s.lanes (omega (arith, good.granted, exact_bound 0 (map fresh_lane (state_tasks s))))
    (good.fit_rest (leb-true s.granted w0 e)))
    (λ e. exact_most s.clock (released_work s) s.lanes good.bounded good.fit)

pub none_released : (js : List Released) → none js ≡ true → work_of js ≡ 0
none_released [] e = refl
none_released (j ∷ js) e = let z : ◌≡◌ {A = ℕ} 0 1 = cc in absurd (omega arith)

-- when idle nothing is released and nothing granted, and the fresh allowance goes by the tasks alone
fixed_renewed : (s : StateModel) (reading : ℕ) → WellFormed s → idle s ≡ true → fixed (fresh_state reading (state_tasks s)) ≡ fixed s
fixed_renewed s reading ok rest =
    ap (λ ts. fixed_of 0 0 (fresh_allowance_of ts)) (tasks_of_fresh (state_tasks s))
    ∙ ap (λ w. fixed_of w 0 (fresh_allowance_of (state_tasks s))) (sym (none_released s.released (and_parts (none_pending s.lanes) (none s.released) rest).1))
    ∙ ap (λ z. fixed_of (released_work s) z (fresh_allowance_of (state_tasks s))) (sym (ok.settled rest))

pub fixed_laws : Laws fixed
fixed_laws = record { within = λ s ok good. fixed_within s good; renewed = λ s reading h ok good rest. omega (arith, fixed_renewed s reading ok rest) }
