-- What a task may ask of the processor.
use Rattle.std.specs.Prelude.{ℕ, suc, ◌+◌, ◌-◌, ◌*◌}
use Rattle.arrivals.specs.Bucket.{arrivals_within}
use Rattle.lanes.specs.Job.{backlog, due_by}
use Rattle.lanes.specs.Lane.{LaneModel}

-- The demand of a task at the length Δ, where the clock reads `now`: the work that is due within Δ ticks. That is what remains of the
-- pending jobs due by then and, from the deadline on, a limit for each job that can still arrive early enough to be due by then:
-- at the Δ - deadline + 1 instants that begin now. (Below the deadline that number is 0, and no arrival counts.)
abbrev pub demand : ℕ → LaneModel → ℕ → ℕ
demand now l Δ = due_by (now + Δ) l.pending + l.task.limit * arrivals_within (suc Δ - l.task.deadline) l.buckets

-- the load of a task at the length y: all that is pending, and a limit for each job that can arrive at the y instants that begin now
abbrev pub load : LaneModel → ℕ → ℕ
load l y = backlog l.pending + l.task.limit * arrivals_within y l.buckets
