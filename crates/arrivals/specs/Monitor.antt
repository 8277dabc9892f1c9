-- A monitor, and what an event makes of it.
use Rattle.std.specs.Prelude.{ℕ, ◌+◌, cond, List, [], ◌∷◌, map, Some, None, Option, nat_lt}
use Rattle.tasks.specs.Reply.{Refusal, Reply, plain, refused, served}
use Rattle.tasks.specs.Task.{TaskModel, task_of}
use Rattle.arrivals.specs.Bucket.{BucketModel, bucket_after, counters_of, first_empty, full}
use Rattle.arrivals.specs.Clock.{last_reading}
use Rattle.arrivals.specs.declared.counter.Event.{Event}
use Rattle.arrivals.specs.declared.counter.Event.TheVariants.{Arrival, Tick}
use Rattle.arrivals.specs.declared.monitor.Monitor.{Monitor}
use Rattle.arrivals.specs.declared.refusal.MonitorRefusal.{MonitorRefusal}
use Rattle.arrivals.specs.declared.refusal.MonitorRefusal.TheVariants.{ClockAtEnd, NoToken}

-- a task, the buckets of its staircases, and the reading of the clock
pub record MonitorModel : Type 0 where
  pub task : TaskModel
  pub buckets : List BucketModel
  pub clock : ℕ

-- what a monitor holds
abbrev pub monitor_of : Monitor → MonitorModel
monitor_of m = record { task = task_of m.task; buckets = counters_of m.counters; clock = m.clock }

-- every counter is full and the clock reads 0
abbrev pub fresh : TaskModel → MonitorModel
fresh t = record { task = t; buckets = map full t.staircases; clock = 0 }

-- the refusals of a monitor: 10, a staircase has no token, and which; 12, the clock is at its end
abbrev pub monitor_refusal : MonitorRefusal → Refusal
monitor_refusal (NoToken k) = record { number = 10; values = k ∷ [] }
monitor_refusal ClockAtEnd = plain 12

-- an arrival is taken, with this due clock, unless a staircase has no token
abbrev pub taken_unless : Option ℕ → ℕ → Reply ℕ
taken_unless None due = served due
taken_unless (Some k) due = refused (monitor_refusal (NoToken k))

-- the answer to an event: the due clock of an arrival that is taken, the new reading after a tick
abbrev pub answer_to : Event → MonitorModel → Reply ℕ
answer_to Arrival m = taken_unless (first_empty 1 m.buckets) (m.clock + m.task.deadline)
answer_to Tick m = cond (nat_lt m.clock last_reading) (served (m.clock + 1)) (refused (monitor_refusal ClockAtEnd))

-- the monitor that an event leaves, where the answer to it is known: a refusal changes nothing
abbrev pub left_by : Event → Reply ℕ → MonitorModel → MonitorModel
left_by Arrival (served due) m = record { task = m.task; buckets = map (bucket_after Arrival) m.buckets; clock = m.clock }
left_by Tick (served reading) m = record { task = m.task; buckets = map (bucket_after Tick) m.buckets; clock = reading }
left_by Arrival (refused r) m = m
left_by Tick (refused r) m = m

-- the monitor after an event
abbrev pub after : Event → MonitorModel → MonitorModel
after e m = left_by e (answer_to e m) m
