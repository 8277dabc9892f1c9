-- A task by its numbers.
use Rattle.std.specs.Prelude.{ℕ, ◌+◌, ◌-◌, ◌*◌, ◌/◌, List, map}
use Rattle.bounded.specs.List.{items}
use Rattle.tasks.specs.Staircase.{StaircaseModel, long_staircase, staircase_of}
use Rattle.tasks.specs.declared.task.Task.{Task}

-- the execution limit and the relative deadline of each job, and the bounds on the arrivals
pub record TaskModel : Type 0 where
  pub limit : ℕ
  pub deadline : ℕ
  pub staircases : List StaircaseModel

-- the numbers that a task holds
abbrev pub task_of : Task → TaskModel
task_of t = record { limit = t.limit; deadline = t.deadline; staircases = map staircase_of (items t.staircases) }

-- how many 1024ths of the processor jobs of this limit take in the long run, one in each step of the staircase; rounded up
abbrev pub share_of : ℕ → StaircaseModel → ℕ
share_of limit s = (1024 * limit + (s.step - 1)) / s.step

-- the share of a task goes by its long staircase
abbrev pub share : TaskModel → ℕ
share t = share_of t.limit (long_staircase t.staircases)
