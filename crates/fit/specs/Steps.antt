-- What an arrival and a tick make of the lanes. Who runs at a tick is given: a gate chooses.
use Rattle.std.specs.Prelude.{ℕ, zero, suc, ◌+◌, ◌-◌, Bool, cond, ◌||◌, List, [], ◌∷◌, ◌++◌, map, ◌==◌}
use Rattle.arrivals.specs.Bucket.{bucket_after}
use Rattle.arrivals.specs.declared.counter.Event.TheVariants.{Arrival, Tick}
use Rattle.lanes.specs.Lane.{LaneModel}
use Rattle.lanes.specs.declared.job.Job.{Job}

-- a job of the task arrives and is taken: each counter gives a token, and the job is due a deadline from now
abbrev pub arrived : ℕ → LaneModel → LaneModel
arrived now l =
    record {
      task = l.task;
      buckets = map (bucket_after Arrival) l.buckets;
      pending = l.pending ++ (record { due = now + l.task.deadline; remaining = l.task.limit } ∷ []);
    }

-- the oldest of these jobs receives a tick; it ends where the host says so, or where nothing remains
abbrev pub oldest_served : Bool → List Job → List Job
oldest_served said [] = []
oldest_served said (j ∷ js) = cond (said || j.remaining - 1 == 0) js (record { due = j.due; remaining = j.remaining - 1 } ∷ js)

-- a tick passes: the counters age, and these jobs are pending then
abbrev pub aged : LaneModel → List Job → LaneModel
aged l js = record { task = l.task; buckets = map (bucket_after Tick) l.buckets; pending = js }

-- a tick at which the lane's oldest job runs
abbrev pub runs : Bool → LaneModel → LaneModel
runs said l = aged l (oldest_served said l.pending)

-- a tick at which no job of the lane runs
abbrev pub waits : LaneModel → LaneModel
waits l = aged l l.pending

-- the lane with k lanes before it changes
abbrev pub at_lane : (LaneModel → LaneModel) → ℕ → List LaneModel → List LaneModel
at_lane f k [] = []
at_lane f zero (l ∷ ls) = f l ∷ ls
at_lane f (suc k) (l ∷ ls) = l ∷ at_lane f k ls

-- a tick at which the lane with k lanes before it runs
abbrev pub ticked_at : Bool → ℕ → List LaneModel → List LaneModel
ticked_at said k [] = []
ticked_at said zero (l ∷ ls) = runs said l ∷ map waits ls
ticked_at said (suc k) (l ∷ ls) = waits l ∷ ticked_at said k ls
