use Rattle.std.proofs.Common.{◌≡◌, ◌++◌, drop, vec_items}
use Rattle.arrivals.specs.Runs.{events}
use Rattle.monitor.specs.Schedule.{scheduled}
use Rattle.monitor.proofs.schedule.schedule.Given as goal

abbrev pub invariant-loop-instant : goal.invariant-loop-instant
invariant-loop-instant l = events (vec_items l.records) ++ scheduled l.clock (drop l.instant-index l.instants) ≡ scheduled 0 l.instants
