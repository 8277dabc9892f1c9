use Rattle.std.proofs.Common.{◌≤◌, map, length, sym, subst, arith}
use Rattle.std.proofs.lemmas.List.{length-map}
use Rattle.bounded.specs.List.{items}
use Rattle.tasks.specs.Staircase.{staircase_of}
use Rattle.arrivals.specs.Bucket.{counters_of}
use Rattle.arrivals.specs.Monitor.{monitor_of}
use Rattle.arrivals.specs.Continuations.{BoundsArrivals}
use Rattle.arrivals.proofs.Continuations.{bounds_arrivals}
use Rattle.arrivals.proofs.Matched.{matched_length}
use Rattle.arrivals.proofs.Ranges.{real_steps}
use Rattle.arrivals.proofs.monitor.Monitor.arrivals_within.Goals as goal

pub returns : goal.returns
returns c =
    let m = c.args.self.now in
    let ss = items m.task.staircases in
    let same = matched_length (map staircase_of ss) (counters_of m.counters) m.own in
    let long = length-map ss staircase_of in
    let some : 1 ≤ length (counters_of m.counters) = omega (arith, m.task.bounded_arrivals) in
    record {
      bound = subst (BoundsArrivals (monitor_of m) c.args.instants) (sym c.arrivals_within.ensures.value) (bounds_arrivals (monitor_of m) some (real_steps (items m.counters.buckets)) c.args.instants);
      value = c.arrivals_within.ensures.value;
    }
