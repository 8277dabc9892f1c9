-- What an answer to opening says in the words of fit, where no length is left out.
use Rattle.std.specs.Prelude.{◌≡◌, ℕ, List, map, Some, None}
use Rattle.arrivals.specs.Windows.{Served}
use Rattle.fit.specs.Fit.{FirstMisfit}
use Rattle.fit.specs.Sound.{Sound}
use Rattle.fit.specs.State.{fresh_state}
use Rattle.fit.specs.WellFormed.{WellFormed}
use Rattle.lanes.specs.Lane.{fresh_lane}
use Rattle.tasks.specs.Reply.{Reply, refused}
use Rattle.tasks.specs.Task.{TaskModel}
use Rattle.gate.specs.OpenRefusal.{open_refusal}
use Rattle.gate.specs.declared.refusal.OpenRefusal.TheVariants.{Misfit, NothingAllowed}

pub record OpensRightly (reading : ℕ) (ts : List TaskModel) (answer : Reply ℕ) : Type 0 where
  -- a task that is named does not fit with 0, and those before it do
  pub misfit : (k : ℕ) → answer ≡ refused (open_refusal (Misfit k)) → FirstMisfit reading 0 (map fresh_lane ts) (Some k)
  -- where nothing is allowed, every task fits with 0
  pub nothing : answer ≡ refused (open_refusal NothingAllowed) → FirstMisfit reading 0 (map fresh_lane ts) None
  -- where the gate opens, every task fits with 0, and the state is sound and well formed
  pub fits : Served answer → FirstMisfit reading 0 (map fresh_lane ts) None
  pub sound : Served answer → Sound (fresh_state reading ts)
  pub formed : Served answer → WellFormed (fresh_state reading ts)
