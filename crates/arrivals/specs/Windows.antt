-- What a monitor promises of its arrivals, in the words of the subject: instants, windows and staircases, and no counters.
use Rattle.std.specs.Prelude.{◌≡◌, ℕ, zero, suc, ◌+◌, ◌≤◌, cond, ◌&&◌, ◌↔◌, List, [], ◌∷◌, ◌++◌, nat_le}
use Rattle.std.specs.List.{AllByRecursion}
use Rattle.tasks.specs.Reply.{Refusal, Reply, refused, served}
use Rattle.tasks.specs.Staircase.{StaircaseModel, allowed_in}
use Rattle.tasks.specs.Task.{TaskModel}
use Rattle.arrivals.specs.Runs.{Observation, count_ticked, ticks_served}
use Rattle.arrivals.specs.declared.counter.Event.{Event}
use Rattle.arrivals.specs.declared.counter.Event.TheVariants.{Arrival, Tick}

-- the reading of the clock after these observations, which began at 0
abbrev pub clock_after : List Observation → ℕ
clock_after os = ticks_served os

-- the instant of this observation, if it is an arrival that was taken
abbrev pub instant_taken : ℕ → Event → Reply ℕ → List ℕ
instant_taken now Arrival (served due) = now ∷ []
instant_taken now Arrival (refused r) = []
instant_taken now Tick (served reading) = []
instant_taken now Tick (refused r) = []

-- the instants of the arrivals that were taken, oldest first, where the clock reads `now` at the first observation
abbrev pub instants_from : ℕ → List Observation → List ℕ
instants_from now [] = []
instants_from now (o ∷ os) = instant_taken now o.event o.answer ++ instants_from (now + count_ticked o.event o.answer) os

-- the same from the beginning, where the clock reads 0
abbrev pub taken_instants : List Observation → List ℕ
taken_instants os = instants_from 0 os

-- how many of these instants are among the length + 1 instants from start to start + length
abbrev pub in_window : ℕ → ℕ → List ℕ → ℕ
in_window start length [] = 0
in_window start length (x ∷ xs) = cond (nat_le start x && nat_le x (start + length)) 1 0 + in_window start length xs

-- arrivals at these instants keep the staircase over every window
abbrev pub Keeps : List ℕ → StaircaseModel → Type 0
Keeps xs s = (start length : ℕ) → in_window start length xs ≤ allowed_in length s

-- the first element for which P does not hold has k elements before it
abbrev pub FirstWithout : {A : Type 0} → (A → Type 0) → ℕ → List A → Type 0
FirstWithout P k [] = ⊥
FirstWithout P zero (x ∷ xs) = P x → ⊥
FirstWithout P (suc k) (x ∷ xs) = P x × FirstWithout P k xs

-- the event was served
abbrev pub Served : {A : Type 0} → Reply A → Type 0
Served (served a) = Unit {0}
Served (refused r) = ⊥

-- the promise on one arrival that came after these observations and got this answer
pub record AdmittedRightly (t : TaskModel) (before : List Observation) (answer : Reply ℕ) : Type 0 where
  -- it is taken exactly when the arrivals taken before, with it, keep every staircase over every window
  pub admission : Served answer ↔ AllByRecursion (Keeps (taken_instants before ++ (clock_after before ∷ []))) t.staircases
  -- one that is taken is due a deadline from now
  pub due : (n : ℕ) → answer ≡ served n → n ≡ clock_after before + t.deadline
  -- a refusal names the first staircase that would not be kept, counted from 1
  pub named : (r : Refusal) → answer ≡ refused r
      → (k : ℕ) × (r ≡ record { number = 10; values = suc k ∷ [] }) × FirstWithout (Keeps (taken_instants before ++ (clock_after before ∷ []))) k t.staircases

-- the promise on a whole list of observations
abbrev pub AllAdmittedRightly : TaskModel → List Observation → Type 0
AllAdmittedRightly t os =
    (before after : List Observation) (answer : Reply ℕ) → os ≡ before ++ (record { event = Arrival; answer = answer } ∷ after) → AdmittedRightly t before answer
