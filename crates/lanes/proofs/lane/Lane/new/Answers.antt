use Rattle.std.proofs.Common.{map, ap, ◌∙◌}
use Rattle.arrivals.proofs.Matched.{matched_full}
use Rattle.arrivals.specs.Bucket.{matched}
use Rattle.bounded.specs.List.{items}
use Rattle.tasks.specs.Staircase.{staircase_of}
use Rattle.lanes.specs.Job.{within_limit}
use Rattle.lanes.proofs.lane.Lane.new.Goals as goal

pub invariant_of-result : goal.invariant_of-result
invariant_of-result c =
    let ss = map staircase_of (items c.args.task.now.staircases) in
    record { own = ap (matched ss) c.new.ensures ∙ matched_full ss; worked = ap (within_limit c.args.task.now.limit) c.new-2.ensures }
