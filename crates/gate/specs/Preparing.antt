-- The state and the allowance that a gate opens with.
use Rattle.std.specs.Prelude.{ℕ, List}
use Rattle.fit.specs.State.{StateModel, fresh_state}
use Rattle.state.specs.State.{state_of}
use Rattle.state.specs.declared.state.State.{State}
use Rattle.tasks.specs.Reply.{Reply, served, then}
use Rattle.tasks.specs.Task.{TaskModel}
use Rattle.gate.specs.Opening.{open_answer}

-- what was prepared
abbrev pub preparation : State × ℕ → StateModel × ℕ
preparation p = (state_of p.0, p.1)

-- as opening answers, with the fresh state beside the allowance
abbrev pub prepared : (StateModel → ℕ) → ℕ → List TaskModel → Reply (StateModel × ℕ)
prepared meaning reading ts = then (open_answer meaning reading ts) (λ n. served (fresh_state reading ts, n))
