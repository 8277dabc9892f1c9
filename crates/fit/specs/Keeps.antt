-- How fit lasts: for one task with what runs before it, and for a given runner.
use Rattle.std.specs.Prelude.{◌≡◌, ℕ, zero, suc, ◌<◌, ◌≤◌, Bool, true, false, List, [], ◌∷◌, map}
use Rattle.std.specs.List.{AllByRecursion}
use Rattle.arrivals.specs.Bucket.{has_token}
use Rattle.fit.specs.Fit.{FitsBehind}
use Rattle.lanes.specs.Lane.{LaneModel, fresh_lane, fresh_lanes}
use Rattle.fit.specs.State.{none, none_pending}
use Rattle.fit.specs.Steps.{arrived, at_lane, runs, ticked_at, waits}
use Rattle.fit.specs.WellFormed.{DuesInOrder, LaneFormed}

-- P holds of the lane with k lanes before it; there is one
abbrev pub At : (LaneModel → Type 0) → ℕ → List LaneModel → Type 0
At P k [] = ⊥
At P zero (l ∷ ls) = P l
At P (suc k) (l ∷ ls) = At P k ls

-- an arrival is admitted: every staircase has a token
abbrev pub Admits : LaneModel → Type 0
Admits l = AllByRecursion (λ b. has_token b ≡ true) l.buckets

-- there is a job that can run
abbrev pub HasPending : LaneModel → Type 0
HasPending l = none l.pending ≡ false

-- an admitted arrival keeps the fit of its own task, and of a task behind it
pub record ArrivalKeepsFit : Type 0 where
  pub own : (now w : ℕ) (before : List LaneModel) (l : LaneModel) → LaneFormed l → Admits l → FitsBehind now w before l → FitsBehind now w before (arrived now l)
  pub behind : (now w k : ℕ) (before : List LaneModel) (l : LaneModel) → AllByRecursion LaneFormed before → At Admits k before
      → FitsBehind now w before l → FitsBehind now w (at_lane (arrived now) k before) l

-- a tick keeps the fit of a task if somebody runs who comes before it, or the task itself
pub record TickKeepsFit : Type 0 where
  -- a background job runs: the amount falls
  pub background : (now w v : ℕ) (before : List LaneModel) (l : LaneModel) → AllByRecursion LaneFormed (l ∷ before) → v < w
      → FitsBehind now w before l → FitsBehind (suc now) v (map waits before) (waits l)
  -- a task before it runs
  pub behind : (now w k : ℕ) (said : Bool) (before : List LaneModel) (l : LaneModel) → AllByRecursion LaneFormed (l ∷ before) → At HasPending k before
      → FitsBehind now w before l → FitsBehind (suc now) w (ticked_at said k before) (waits l)
  -- it runs itself
  pub own : (now w : ℕ) (said : Bool) (before : List LaneModel) (l : LaneModel) → AllByRecursion LaneFormed (l ∷ before) → DuesInOrder now l → HasPending l
      → FitsBehind now w before l → FitsBehind (suc now) w (map waits before) (runs said l)

-- a task with nothing pending, behind tasks with nothing pending, fits at least as when all were fresh
abbrev pub IdleFitsAsFresh : Type 0
IdleFitsAsFresh = (opened now w v : ℕ) (before : List LaneModel) (l : LaneModel) → AllByRecursion LaneFormed (l ∷ before) → none_pending (l ∷ before) ≡ true → v ≤ w
    → FitsBehind opened w (fresh_lanes before) (fresh_lane l.task) → FitsBehind now v before l

-- a task that fits has no pending job that is due now or was due before
abbrev pub FitIsInTime : Type 0
FitIsInTime = (now w : ℕ) (before : List LaneModel) (l : LaneModel) → LaneFormed l → FitsBehind now w before l → AllByRecursion (λ j. now < j.due) l.pending
