-- The fixed allowance: what the freshly opened state allows is spent by each hand-out and comes back when the processor is idle.
use Rattle.std.specs.Prelude.{ℕ, ◌+◌, ◌-◌, cond, nat_le}
use Rattle.fit.specs.Exact.{fresh_allowance_of}
use Rattle.fit.specs.State.{StateModel, released_work, state_tasks}

-- W is the released work, Z the cost granted since the processor was last idle, w0 the budget: W + w0 - Z where Z is at most w0, otherwise W
abbrev pub fixed_of : ℕ → ℕ → ℕ → ℕ
fixed_of W Z w0 = cond (nat_le Z w0) (W + w0 - Z) W

-- the fixed allowance of a state
abbrev pub fixed : StateModel → ℕ
fixed s = fixed_of (released_work s) s.granted (fresh_allowance_of (state_tasks s))
