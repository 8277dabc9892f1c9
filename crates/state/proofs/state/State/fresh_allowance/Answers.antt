use Rattle.std.proofs.Common.{arith}
use Rattle.fit.proofs.Allowances.{exact_bound}
use Rattle.fit.specs.State.{fresh_state, state_tasks}
use Rattle.state.specs.State.{state_of}
use Rattle.state.proofs.state.State.fresh_allowance.Goals as goal

pub returns : goal.returns
returns c =
    let state = c.args.self.now in
    record { value = state.fresh; bound = omega (arith, state.fresh, exact_bound 0 (fresh_state 0 (state_tasks (state_of state))).lanes) }
