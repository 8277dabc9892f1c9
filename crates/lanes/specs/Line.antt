-- A straight line above what a task may ask, by its long staircase alone, in 1024ths of a tick.
use Rattle.std.specs.Prelude.{ℕ, ◌+◌, ◌*◌, min}
use Rattle.arrivals.specs.Bucket.{BucketModel, long_bucket}
use Rattle.arrivals.specs.Counter.{age, tokens}
use Rattle.tasks.specs.Task.{share}
use Rattle.lanes.specs.Job.{backlog}
use Rattle.lanes.specs.Lane.{LaneModel}

-- where the line of a task with this bucket begins: the backlog, a limit for each token, and what the age has gathered of the next token, at most one limit
abbrev pub line_from : LaneModel → BucketModel → ℕ
line_from l b =
    1024 * (backlog l.pending + l.task.limit * tokens b.staircase b.counter) + min (share l.task * age b.counter) (1024 * l.task.limit)

-- by the bucket of the long staircase
abbrev pub line_start : LaneModel → ℕ
line_start l = line_from l (long_bucket l.buckets)

-- the line at the length y: it rises by the share
abbrev pub line_load : LaneModel → ℕ → ℕ
line_load l y = line_start l + share l.task * y
