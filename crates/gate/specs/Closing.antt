-- What a gate tells when it is closed.
use Rattle.std.specs.Prelude.{length}
use Rattle.fit.specs.State.{pending_count}
use Rattle.gate.specs.Gate.{GateModel}
use Rattle.gate.specs.declared.closing.Closing.{Closing}

-- its clock, and how many jobs are pending, released and queued
abbrev pub closing_of : GateModel → Closing
closing_of g =
    record { clock = g.state.clock; pending = pending_count g.state.lanes; released = length g.state.released; queued = length g.queue }
