-- In every run from a fresh monitor each arrival is taken exactly when the staircases allow it.
use Rattle.std.proofs.Common.{◌≡◌, ℕ, ◌+◌, ◌≤◌, ltb, ◌↔◌, List, [], ◌∷◌, ◌++◌, sym, refl, ap, ◌∙◌, subst, inl, inr, append_assoc, add-zero, add_assoc, zero-add, arith}
use Rattle.std.proofs.lemmas.List.{append-nil}
use Rattle.std.proofs.lemmas.Bool.{cond_both}
use Rattle.std.specs.List.{AllByRecursion}
use Rattle.tasks.specs.Reply.{Reply, plain, refused, served}
use Rattle.tasks.specs.Staircase.{StaircaseModel}
use Rattle.tasks.specs.Task.{TaskModel}
use Rattle.arrivals.proofs.All.{first_not_all}
use Rattle.arrivals.proofs.Tokens.{HasToken, arrival_cases, taken_has_tokens}
use Rattle.arrivals.proofs.Tracking.{AllTracked, first_window, staircases_after, staircases_full, staircases_of, tokens_windows, tracked_arrival, tracked_fresh, tracked_tick}
use Rattle.arrivals.specs.Clock.{last_reading}
use Rattle.arrivals.specs.Monitor.{MonitorModel, after, answer_to, fresh, left_by}
use Rattle.arrivals.specs.Runs.{Observation, count_ticked, observations, ticks_served}
use Rattle.arrivals.specs.Windows.{AdmittedRightly, AllAdmittedRightly, Keeps, clock_after, instant_taken, instants_from, taken_instants}
use Rattle.arrivals.specs.declared.counter.Event.{Event}
use Rattle.arrivals.specs.declared.counter.Event.TheVariants.{Arrival, Tick}

-- a monitor of the task t at the instant `now`, which has taken arrivals at the instants xs
record Followed (t : TaskModel) (now : ℕ) (xs : List ℕ) (m : MonitorModel) : Type 0 where
  task : m.task ≡ t
  clock : m.clock ≡ now
  staircases : staircases_of m.buckets ≡ t.staircases
  tracked : AllTracked now xs m.buckets

tick_reading : (m : MonitorModel) (n : ℕ) → served n ≡ answer_to Tick m → n ≡ m.clock + 1
tick_reading m n =
    cond_both (ltb m.clock last_reading) (served (m.clock + 1)) (refused (plain 12)) (λ r. served n ≡ r → n ≡ m.clock + 1)
    (λ _ e. cc) (λ _ e. let z : ◌≡◌ {A = ℕ} 0 1 = cc in absurd (omega arith))

-- after one event with its answer
followed_left : (t : TaskModel) (now : ℕ) (xs : List ℕ) (m : MonitorModel) (e : Event) (r : Reply ℕ) → r ≡ answer_to e m → Followed t now xs m
    → Followed t (now + count_ticked e r) (xs ++ instant_taken now e r) (left_by e r m)
followed_left t now xs m Arrival (served n) a f =
    rw add-zero (record {
      task = f.task;
      clock = f.clock;
      staircases = staircases_after Arrival m.buckets ∙ f.staircases;
      tracked = tracked_arrival now xs m.buckets f.tracked (taken_has_tokens m.buckets (m.clock + m.task.deadline) n a);
    })
followed_left t now xs m Tick (served n) a f =
    rw append-nil (record {
      task = f.task;
      clock = omega (arith, tick_reading m n a, f.clock);
      staircases = staircases_after Tick m.buckets ∙ f.staircases;
      tracked = tracked_tick now xs m.buckets f.tracked;
    })
followed_left t now xs m Arrival (refused r) a f = rw (add-zero, append-nil) f
followed_left t now xs m Tick (refused r) a f = rw (add-zero, append-nil) f

-- Each answer in a run is that of the monitor which the observations before it left.
module _ (t : TaskModel) where
  abbrev AnsweredBy : ℕ → List ℕ → List Observation → Reply ℕ → MonitorModel → Type 0
  AnsweredBy now xs before answer n = Followed t (now + ticks_served before) (xs ++ instants_from now before) n × (answer ≡ answer_to Arrival n)

  answered : (now : ℕ) (xs : List ℕ) (m : MonitorModel) → Followed t now xs m
      → (es : List Event) (before rest : List Observation) (answer : Reply ℕ) → observations m es ≡ before ++ (record { event = Arrival; answer = answer } ∷ rest)
      → (n : MonitorModel) × AnsweredBy now xs before answer n
  answered now xs m f [] [] rest answer eq = let z : ◌≡◌ {A = ℕ} 0 1 = cc in absurd (omega arith)
  answered now xs m f [] (o ∷ before) rest answer eq = let z : ◌≡◌ {A = ℕ} 0 1 = cc in absurd (omega arith)
  answered now xs m f (e ∷ es) [] rest answer eq =
      let here : ◌≡◌ {A = Observation} (record { event = e; answer = answer_to e m }) (record { event = Arrival; answer = answer }) = cc in
      (m, (rw (add-zero, append-nil) f, sym (ap (λ o. o.answer) here) ∙ ap (λ e. answer_to e m) (ap (λ o. o.event) here)))
  answered now xs m f (e ∷ es) (o ∷ before) rest answer eq =
      let r : Reply ℕ = answer_to e m in
      let here : ◌≡◌ {A = Observation} (record { event = e; answer = r }) o = cc in
      let later : observations (after e m) es ≡ before ++ (record { event = Arrival; answer = answer } ∷ rest) = cc in
      let found : (n : MonitorModel) × AnsweredBy (now + count_ticked e r) (xs ++ instant_taken now e r) before answer n =
      answered (now + count_ticked e r) (xs ++ instant_taken now e r) (after e m) (followed_left t now xs m e r refl f) es before rest answer later in
      subst (λ o. (n : MonitorModel) × AnsweredBy now xs (o ∷ before) answer n) here
      (found.0, (rw (← add_assoc now, ← append_assoc xs) found.1.0, found.1.1))

-- the answer of such a monitor to an arrival is right
admitted : (t : TaskModel) (before : List Observation) (m : MonitorModel) → Followed t (clock_after before) (taken_instants before) m
    → AdmittedRightly t before (answer_to Arrival m)
admitted t before m f =
    let now : ℕ = clock_after before in
    let xs : List ℕ = taken_instants before in
    let due : ℕ = m.clock + m.task.deadline in
    let Kept : StaircaseModel → Type 0 = Keeps (xs ++ (now ∷ [])) in
    let law : AllByRecursion HasToken m.buckets ↔ AllByRecursion Kept t.staircases = rw f.staircases at (tokens_windows now xs m.buckets f.tracked) in
    elim (arrival_cases m.buckets due) [
      | inl h ↦
          rw h.0 (record {
            admission = ((λ _. law.0 h.1), (λ _. tt));
            due = λ n e. let same : due ≡ n = cc in omega (arith, f.clock, ap (λ t. t.deadline) f.task);
            named = λ r e. let z : ◌≡◌ {A = ℕ} 0 1 = cc in absurd (omega arith);
          })
      | inr h ↦
          rw h.1 (record {
            admission = ((λ z. absurd z), (λ kept. first_not_all HasToken h.0 m.buckets h.2 (law.1 kept)));
            due = λ n e. let z : ◌≡◌ {A = ℕ} 0 1 = cc in absurd (omega arith);
            named = λ r e. (h.0, cc, rw f.staircases at (first_window now xs m.buckets f.tracked h.0 h.2));
          })
    ]

pub all_admitted_rightly : (t : TaskModel) → AllByRecursion (λ s. (1 ≤ s.burst) × (1 ≤ s.step)) t.staircases → (es : List Event) → AllAdmittedRightly t (observations (fresh t) es)
all_admitted_rightly t p es before rest answer eq =
    let start : Followed t 0 [] (fresh t) = record { task = refl; clock = refl; staircases = staircases_full t.staircases; tracked = tracked_fresh 0 t.staircases p } in
    let found = answered t 0 [] (fresh t) start es before rest answer eq in
    rw found.1.1 (admitted t before found.0 (rw zero-add at found.1.0))
