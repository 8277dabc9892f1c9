-- How far a search has to go: in the long run the tasks leave a part of the processor free, so long lengths do not decide.
use Rattle.std.specs.Prelude.{ℕ, ◌+◌, ◌-◌, ◌*◌, ◌≤◌, List, ◌∷◌}
use Rattle.std.specs.List.{AllByRecursion}
use Rattle.tasks.specs.Task.{TaskModel}
use Rattle.lanes.specs.Demand.{demand}
use Rattle.fit.specs.Fit.{ahead}
use Rattle.lanes.specs.Lane.{LaneModel, tasks_of}
use Rattle.tasks.specs.TaskSet.{peak_work, shares}
use Rattle.lanes.specs.Standing.{standing}
use Rattle.fit.specs.WellFormed.{LaneFormed}

-- no length above this decides, where the shares sum to at most 960 and the amount is at most 1024
abbrev pub horizon : List TaskModel → ℕ
horizon ts = 16 * peak_work ts

-- From the length Δ on, with every amount up to m, each length is itself enough for the task of the lane l behind those before it:
-- what is free of the processor until Δ is at least the amount and what stands.
abbrev pub LongLengthsSuffice : Type 0
LongLengthsSuffice =
    (now m Δ : ℕ) (before : List LaneModel) (l : LaneModel) → AllByRecursion LaneFormed (l ∷ before)
    → 1024 * (m + standing (l ∷ before)) ≤ Δ * (1024 - shares (tasks_of (l ∷ before)))
    → (w longer : ℕ) → w ≤ m → Δ ≤ longer → w + demand now l longer + ahead before longer ≤ longer
