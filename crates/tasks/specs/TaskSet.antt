-- What the tasks of a set take together.
use Rattle.std.specs.Prelude.{ℕ, ◌+◌, ◌*◌, List, [], ◌∷◌}
use Rattle.tasks.specs.Staircase.{long_staircase}
use Rattle.tasks.specs.Task.{TaskModel, share}

-- the 1024ths of the processor that these tasks take together in the long run
abbrev pub shares : List TaskModel → ℕ
shares [] = 0
shares (t ∷ ts) = share t + shares ts

-- the burst of a task's long staircase
abbrev pub long_burst : TaskModel → ℕ
long_burst t = (long_staircase t.staircases).burst

-- a bound on the work of a task that can stand at one instant: eight pending jobs, and a burst of jobs more
abbrev pub peak_of : TaskModel → ℕ
peak_of t = t.limit * (8 + long_burst t)

abbrev pub peak_of_tasks : List TaskModel → ℕ
peak_of_tasks [] = 0
peak_of_tasks (t ∷ ts) = peak_of t + peak_of_tasks ts

-- K: a bound on the work that can stand at one instant, with the largest amount of background work
abbrev pub peak_work : List TaskModel → ℕ
peak_work ts = 1024 + peak_of_tasks ts
