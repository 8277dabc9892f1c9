use Rattle.std.proofs.Common.{map, sym, ap, ◌∙◌}
use mathlib.Core.List.{map-map}
use Rattle.std.proofs.lemmas.List.{take_all}
use Rattle.bounded.specs.List.{items}
use Rattle.tasks.proofs.Lists.{filled_more}
use Rattle.tasks.specs.Task.{task_of}
use Rattle.lanes.specs.Lane.{fresh_lane, lane_of}
use Rattle.lanes.proofs.making.fresh_lanes.Goals as goal

pub loop-task-preserved : goal.loop-task-preserved
loop-task-preserved c =
    let tasks = c.tasks-task-items.result.now in
    filled_more lane_of (λ t. fresh_lane (task_of t)) 8 (items c.loop-task.lanes) _ tasks c.loop-task.task-index c.new-in-loop-task.result c.task-item.result
    c.loop-task-test.true c.tasks-task-items.ensures.bound c.loop-task.invariant c.push.ensures.after (c.new-in-loop-task.ensures ∙ ap (λ t. fresh_lane (task_of t)) c.task-item.is)

pub returns : goal.returns
returns c =
    let tasks = c.tasks-task-items.result.now in
    c.loop-task.invariant ∙ ap (map (λ t. fresh_lane (task_of t))) (take_all c.loop-task.task-index tasks c.loop-task-test.false) ∙ sym (map-map fresh_lane task_of tasks)
    ∙ ap (map fresh_lane) c.tasks-task-items.ensures.value
