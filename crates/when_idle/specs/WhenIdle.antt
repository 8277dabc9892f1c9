-- The fresh allowance while the processor is idle, and otherwise nothing.
use Rattle.std.specs.Prelude.{ℕ, cond}
use Rattle.fit.specs.Exact.{fresh_allowance_of}
use Rattle.fit.specs.State.{StateModel, idle, state_tasks}

abbrev pub when_idle : StateModel → ℕ
when_idle s = cond (idle s) (fresh_allowance_of (state_tasks s)) 0
