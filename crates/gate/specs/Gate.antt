-- What a gate stands for.
use Rattle.std.specs.Prelude.{List, []}
use Rattle.arrivals.specs.Clock.{last_reading}
use Rattle.bounded.specs.List.{items}
use Rattle.fit.specs.State.{StateModel, fresh_state}
use Rattle.state.specs.State.{state_of}
use Rattle.gate.specs.declared.gate.Gate.{Gate}
use Rattle.gate.specs.declared.offer.Offer.{Offer}

-- the state of the processor, and the background jobs that are not handed out yet, oldest first
pub record GateModel : Type 0 where
  pub state : StateModel
  pub queue : List Offer

-- what a gate holds besides its rule
abbrev pub gate_of : {R : Type 0} → Gate R → GateModel
gate_of g = record { state = state_of g.state; queue = items g.queue }

-- a place that was not opened yet: there is no task and no job, and the clock shows its last reading
abbrev pub unopened : GateModel
unopened = record { state = fresh_state last_reading []; queue = [] }
