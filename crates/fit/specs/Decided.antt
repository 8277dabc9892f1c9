-- The searches up to the horizon decide: no longer length has to be looked at.
use Rattle.std.specs.Prelude.{◌≡◌, ℕ, ◌≤◌, true, ◌↔◌, List}
use Rattle.std.specs.List.{AllByRecursion}
use Rattle.fit.specs.Fit.{AllFit}
use Rattle.fit.specs.Horizon.{horizon}
use Rattle.fit.specs.Line.{AllPass, all_pass_to}
use Rattle.fit.specs.Search.{all_fit_to}
use Rattle.fit.specs.WellFormed.{LaneFormed}
use Rattle.lanes.specs.Lane.{LaneModel, tasks_of}
use Rattle.tasks.specs.TaskSet.{shares}

-- of lanes whose tasks leave a sixteenth of the processor free, and of amounts up to 1024
pub record HorizonDecides : Type 0 where
  -- whether every task fits, which asks for every length
  pub fit : (now w : ℕ) (ls : List LaneModel) → AllByRecursion LaneFormed ls → shares (tasks_of ls) ≤ 960 → w ≤ 1024
      → (all_fit_to (horizon (tasks_of ls)) now w (λ y. 0) ls ≡ true) ↔ AllFit now w (λ y. 0) ls
  -- whether every task passes behind the lines of those before it
  pub line : (now w : ℕ) (ls : List LaneModel) → AllByRecursion LaneFormed ls → shares (tasks_of ls) ≤ 960 → w ≤ 1024
      → (all_pass_to (horizon (tasks_of ls)) now w (λ y. 0) ls ≡ true) ↔ AllPass now w (λ y. 0) ls
