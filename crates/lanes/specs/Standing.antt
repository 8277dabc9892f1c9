-- What stands of the work of lanes at one instant.
use Rattle.std.specs.Prelude.{ℕ, ◌+◌, ◌*◌, List, [], ◌∷◌}
use Rattle.tasks.specs.TaskSet.{long_burst}
use Rattle.lanes.specs.Job.{backlog}
use Rattle.lanes.specs.Lane.{LaneModel}

-- the backlog, and a burst of jobs more by the long staircase
abbrev pub standing_of : LaneModel → ℕ
standing_of l = backlog l.pending + l.task.limit * long_burst l.task

-- of all these lanes together
abbrev pub standing : List LaneModel → ℕ
standing [] = 0
standing (l ∷ ls) = standing_of l + standing ls
