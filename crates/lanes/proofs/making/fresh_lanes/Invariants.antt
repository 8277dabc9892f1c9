use Rattle.std.proofs.Common.{◌≡◌, map, take}
use Rattle.bounded.specs.List.{items}
use Rattle.lanes.specs.Lane.{fresh_lane, lane_of}
use Rattle.tasks.specs.Task.{task_of}
use Rattle.lanes.proofs.making.fresh_lanes.Given as goal

abbrev pub invariant-loop-task : goal.invariant-loop-task
invariant-loop-task l = map lane_of (items l.lanes) ≡ map (λ t. fresh_lane (task_of t)) (take l.task-index l.task-items)
