-- Figures of a monitor, as one list: a task, the instants of its arrivals, and the answer to each of them.
use Rattle.std.specs.Prelude.{◌≡◌, ℕ, ◌-◌, List, [], ◌∷◌, ◌++◌, map, replicate}
use Rattle.arrivals.specs.Monitor.{fresh, monitor_refusal}
use Rattle.arrivals.specs.Runs.{Observation, observations}
use Rattle.arrivals.specs.declared.counter.Event.{Event}
use Rattle.arrivals.specs.declared.counter.Event.TheVariants.{Arrival, Tick}
use Rattle.arrivals.specs.declared.refusal.MonitorRefusal.TheVariants.{NoToken}
use Rattle.tasks.specs.Reply.{Reply, refused, served}
use Rattle.tasks.specs.Staircase.{StaircaseModel}
use Rattle.tasks.specs.Task.{TaskModel}

-- a case with its answers
pub record Figure : Type 0 where
  pub task : TaskModel
  -- they do not fall
  pub instants : List ℕ
  pub answers : List (Reply ℕ)

-- ticks from the reading `now` up to each instant, and an arrival there
abbrev pub arrivals_at : ℕ → List ℕ → List Event
arrivals_at now [] = []
arrivals_at now (t ∷ ts) = replicate (t - now) Tick ++ (Arrival ∷ arrivals_at t ts)

-- the answer, if it is one to an arrival
abbrev pub if_arrival : Event → Reply ℕ → List (Reply ℕ)
if_arrival Arrival answer = answer ∷ []
if_arrival Tick answer = []

-- the answers to arrivals among these observations
abbrev pub arrival_answers : List Observation → List (Reply ℕ)
arrival_answers [] = []
arrival_answers (o ∷ os) = if_arrival o.event o.answer ++ arrival_answers os

-- what a fresh monitor of the task answers to arrivals at the instants
abbrev pub answered : Figure → List (Reply ℕ)
answered f = arrival_answers (observations (fresh f.task) (arrivals_at 0 f.instants))

-- refused because the staircase with this number has no token
abbrev pub no_token : ℕ → Reply ℕ
no_token k = refused (monitor_refusal (NoToken k))

-- a staircase by its burst and step
abbrev pub staircase : ℕ → ℕ → StaircaseModel
staircase n d = record { burst = n; step = d }

-- the list
abbrev pub figures : List Figure
figures =
    record {
      task = record { limit = 2; deadline = 5; staircases = staircase 1 10 ∷ [] };
      instants = 0 ∷ 9 ∷ 10 ∷ [];
      answers = served 5 ∷ no_token 1 ∷ served 15 ∷ [];
    }
    ∷ record {
      task = record { limit = 2; deadline = 5; staircases = staircase 2 10 ∷ [] };
      instants = 0 ∷ 9 ∷ 10 ∷ 10 ∷ [];
      answers = served 5 ∷ served 14 ∷ served 15 ∷ no_token 1 ∷ [];
    }
    ∷ record {
      task = record { limit = 3; deadline = 50; staircases = staircase 1 20 ∷ staircase 4 100 ∷ [] };
      instants = 0 ∷ 20 ∷ 40 ∷ 60 ∷ 90 ∷ 100 ∷ [];
      answers = served 50 ∷ served 70 ∷ served 90 ∷ served 110 ∷ no_token 2 ∷ served 150 ∷ [];
    }
    ∷ []

-- each figure is what the definition of the monitor answers
abbrev pub ArrivalFiguresHold : Type 0
ArrivalFiguresHold = map answered figures ≡ map (λ f. f.answers) figures
