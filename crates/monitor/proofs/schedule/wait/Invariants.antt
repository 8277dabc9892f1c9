use Rattle.std.proofs.Common.{◌≡◌, ◌++◌, replicate, vec_items}
use Rattle.arrivals.specs.Runs.{events}
use Rattle.arrivals.specs.declared.counter.Event.TheVariants.{Tick}
use Rattle.monitor.proofs.schedule.wait.Given as goal

abbrev pub invariant-loop : goal.invariant-loop
invariant-loop l = events (vec_items l.records) ≡ events (vec_items l.initial.records) ++ replicate l.counter Tick
