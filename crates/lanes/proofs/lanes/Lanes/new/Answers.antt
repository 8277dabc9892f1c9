use Rattle.std.proofs.Common.{◌≡◌, map, ap, ◌∙◌, arith}
use Rattle.bounded.specs.List.{items}
use Rattle.lanes.specs.Lane.{lane_of, tasks_of}
use Rattle.tasks.specs.Draft.{draft_of}
use Rattle.tasks.specs.TaskSet.{shares}
use Rattle.lanes.proofs.Fresh.{tasks_of_fresh}
use Rattle.lanes.proofs.lanes.Lanes.new.Goals as goal

pub invariant_of-result : goal.invariant_of-result
invariant_of-result c =
    let own : tasks_of (map lane_of (items c.fresh_lanes.result)) ≡ draft_of c.args.draft.now = ap tasks_of c.fresh_lanes.ensures ∙ tasks_of_fresh _ in
    omega (arith, ap shares own, c.shares.ensures.value, c.if-shares-gt960.false)
