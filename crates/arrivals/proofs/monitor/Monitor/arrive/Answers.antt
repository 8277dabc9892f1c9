use Rattle.std.proofs.Common.{map}
use Rattle.arrivals.specs.Bucket.{counters_of}
use Rattle.arrivals.specs.declared.counter.Event.TheVariants.{Arrival}
use Rattle.bounded.specs.List.{items}
use Rattle.tasks.specs.Staircase.{staircase_of}
use Rattle.arrivals.proofs.Matched.{still_matched}
use Rattle.arrivals.proofs.monitor.Monitor.arrive.Goals as goal

pub invariant_of-self-clause-own : goal.invariant_of-self-clause-own
invariant_of-self-clause-own c =
    let m = c.args.self.now in
    still_matched Arrival (map staircase_of (items m.task.staircases)) (counters_of m.counters) _ c.step.ensures m.own
