-- A list of events, each with the answer that the monitor gives to it.
use Rattle.std.specs.Prelude.{ℕ, ◌+◌, List, [], ◌∷◌, ◌++◌, map, Some, None, Option, Result}
use Rattle.tasks.specs.Reply.{Reply, refused, reply, served}
use Rattle.arrivals.specs.Monitor.{MonitorModel, after, answer_to, monitor_refusal}
use Rattle.arrivals.specs.declared.counter.Event.{Event}
use Rattle.arrivals.specs.declared.counter.Event.TheVariants.{Arrival, Tick}
use Rattle.arrivals.specs.declared.record.Record.{Record}
use Rattle.arrivals.specs.declared.refusal.MonitorRefusal.{MonitorRefusal}

-- an event and the answer to it
pub record Observation : Type 0 where
  pub event : Event
  pub answer : Reply ℕ

-- the events of these records
abbrev pub events : List Record → List Event
events rs = map (λ r. r.event) rs

-- what a record tells once its answer is there
abbrev pub heard : Event → Option (Result ℕ MonitorRefusal) → List Observation
heard e None = []
heard e (Some r) = record { event = e; answer = reply (λ n. n) monitor_refusal r } ∷ []

-- a record as it stands: its event, and the answer if it is there
pub record RecordModel : Type 0 where
  pub event : Event
  pub answer : Option (Reply ℕ)

-- the answer in a record, by number and values
abbrev pub answer_of : Option (Result ℕ MonitorRefusal) → Option (Reply ℕ)
answer_of None = None
answer_of (Some r) = Some (reply (λ n. n) monitor_refusal r)

-- what a record holds
abbrev pub record_of : Record → RecordModel
record_of r = record { event = r.event; answer = answer_of r.answer }

-- the record of an observation: the answer is there
abbrev pub told : Observation → RecordModel
told o = record { event = o.event; answer = Some o.answer }

-- the observations that these records hold
abbrev pub history : List Record → List Observation
history [] = []
history (r ∷ rs) = heard r.event r.answer ++ history rs

-- an event with the answer of this monitor
abbrev pub observation : Event → MonitorModel → Observation
observation e m = record { event = e; answer = answer_to e m }

-- what the monitor answers to these events, one after another
abbrev pub observations : MonitorModel → List Event → List Observation
observations m [] = []
observations m (e ∷ es) = observation e m ∷ observations (after e m) es

-- the monitor that they leave
abbrev pub after_all : MonitorModel → List Event → MonitorModel
after_all m [] = m
after_all m (e ∷ es) = after_all (after e m) es

-- 1 for an arrival that was taken
abbrev pub count_taken : Event → Reply ℕ → ℕ
count_taken Arrival (served due) = 1
count_taken Arrival (refused r) = 0
count_taken Tick (served reading) = 0
count_taken Tick (refused r) = 0

-- 1 for a tick that was served
abbrev pub count_ticked : Event → Reply ℕ → ℕ
count_ticked Arrival (served due) = 0
count_ticked Arrival (refused r) = 0
count_ticked Tick (served reading) = 1
count_ticked Tick (refused r) = 0

-- how many arrivals were taken
abbrev pub arrivals_taken : List Observation → ℕ
arrivals_taken [] = 0
arrivals_taken (o ∷ os) = count_taken o.event o.answer + arrivals_taken os

-- how many ticks were served
abbrev pub ticks_served : List Observation → ℕ
ticks_served [] = 0
ticks_served (o ∷ os) = count_ticked o.event o.answer + ticks_served os
