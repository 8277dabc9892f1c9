-- The lanes of tasks that have had no arrival.
use Rattle.std.proofs.Common.{◌≡◌, List, [], ◌∷◌, map, refl, ap}
use Rattle.tasks.specs.Task.{TaskModel}
use Rattle.lanes.specs.Lane.{fresh_lane, tasks_of}

-- they are the lanes of these tasks
pub tasks_of_fresh : (ts : List TaskModel) → tasks_of (map fresh_lane ts) ≡ ts
tasks_of_fresh [] = refl
tasks_of_fresh (t ∷ ts) = ap (λ us. t ∷ us) (tasks_of_fresh ts)
