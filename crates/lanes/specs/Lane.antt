-- A lane: a task with the buckets of its staircases and its pending jobs, oldest first.
use Rattle.std.specs.Prelude.{List, [], map}
use Rattle.arrivals.specs.Bucket.{BucketModel, counters_of, full}
use Rattle.bounded.specs.List.{items}
use Rattle.tasks.specs.Task.{TaskModel, task_of}
use Rattle.lanes.specs.declared.job.Job.{Job}
use Rattle.lanes.specs.declared.lane.Lane.{Lane}

-- its three parts
pub record LaneModel : Type 0 where
  pub task : TaskModel
  pub buckets : List BucketModel
  pub pending : List Job

-- what a lane holds
abbrev pub lane_of : Lane → LaneModel
lane_of l = record { task = task_of l.task; buckets = counters_of l.counters; pending = items l.pending }

-- the lane of a task that has had no arrival: every counter is full and nothing is pending
abbrev pub fresh_lane : TaskModel → LaneModel
fresh_lane t = record { task = t; buckets = map full t.staircases; pending = [] }

-- the tasks of these lanes
abbrev pub tasks_of : List LaneModel → List TaskModel
tasks_of ls = map (λ l. l.task) ls

-- the lanes of the same tasks as when nothing has arrived
abbrev pub fresh_lanes : List LaneModel → List LaneModel
fresh_lanes ls = map (λ l. fresh_lane l.task) ls
