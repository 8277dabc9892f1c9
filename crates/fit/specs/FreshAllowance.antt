-- The fresh allowance does not depend on the reading of the clock.
use Rattle.std.specs.Prelude.{◌≡◌, ℕ, ◌≤◌, List}
use Rattle.std.specs.List.{AllByRecursion}
use Rattle.fit.specs.Exact.{exact, fresh_allowance_of}
use Rattle.fit.specs.State.{fresh_state}
use Rattle.fit.specs.WellFormed.{TaskFormed}
use Rattle.tasks.specs.Task.{TaskModel}
use Rattle.tasks.specs.TaskSet.{shares}

abbrev pub FreshAtAnyReading : Type 0
FreshAtAnyReading = (reading : ℕ) (ts : List TaskModel) → AllByRecursion TaskFormed ts → shares ts ≤ 960 → exact (fresh_state reading ts) ≡ fresh_allowance_of ts
