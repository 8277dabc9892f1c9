use Rattle.std.proofs.Common.{map, ap, ◌∙◌}
use Rattle.arrivals.specs.Bucket.{matched}
use Rattle.bounded.specs.List.{items}
use Rattle.tasks.specs.Staircase.{staircase_of}
use Rattle.arrivals.proofs.Matched.{matched_full}
use Rattle.arrivals.proofs.monitor.Monitor.new.Goals as goal

pub invariant_of-result-clause-own : goal.invariant_of-result-clause-own
invariant_of-result-clause-own c =
    let ss = map staircase_of (items c.args.task.now.staircases) in
    ap (matched ss) c.new.ensures ∙ matched_full ss
