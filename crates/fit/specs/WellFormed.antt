-- What every staircase, every task, every lane and every state has by its type.
use Rattle.std.specs.Prelude.{◌≡◌, ℕ, ◌+◌, ◌≤◌, Bool, true, ◌&&◌, List, [], ◌∷◌, map, length, nat_le}
use Rattle.std.specs.List.{AllByRecursion}
use Rattle.arrivals.specs.Clock.{last_reading}
use Rattle.arrivals.specs.Counter.{sound}
use Rattle.fit.specs.State.{StateModel, idle, state_tasks}
use Rattle.lanes.specs.Job.{in_order, within_limit}
use Rattle.lanes.specs.Lane.{LaneModel}
use Rattle.lanes.specs.declared.released.Released.{Released}
use Rattle.tasks.specs.Staircase.{StaircaseModel, pending_bound}
use Rattle.tasks.specs.Task.{TaskModel}
use Rattle.tasks.specs.TaskSet.{shares}

-- the ranges of a staircase
pub record StaircaseFormed (s : StaircaseModel) : Type 0 where
  pub burst_above : 1 ≤ s.burst
  pub burst_below : s.burst ≤ 8
  pub step_above : 1 ≤ s.step
  pub step_below : s.step ≤ 4096

-- the ranges of a task
pub record TaskFormed (t : TaskModel) : Type 0 where
  pub limit_above : 1 ≤ t.limit
  pub limit_below : t.limit ≤ 64
  pub deadline_above : 1 ≤ t.deadline
  pub deadline_below : t.deadline ≤ 1024
  pub some_staircase : 1 ≤ length t.staircases
  pub few_staircases : length t.staircases ≤ 4
  pub staircases : AllByRecursion StaircaseFormed t.staircases
  -- at most eight jobs can be pending at once
  pub few_pending : pending_bound t.deadline t.staircases ≤ 8

-- what a lane has whatever the clock reads
pub record LaneFormed (l : LaneModel) : Type 0 where
  pub task : TaskFormed l.task
  -- one bucket for each staircase of the task
  pub own : map (λ b. b.staircase) l.buckets ≡ l.task.staircases
  -- a short counter has fewer tokens than the burst and is younger than the step
  pub counters : AllByRecursion (λ b. sound b.staircase b.counter ≡ true) l.buckets
  pub few : length l.pending ≤ 8
  -- each pending job has something left, and at most the limit
  pub worked : within_limit l.task.limit l.pending ≡ true

-- where the clock reads `now`: the oldest job is due first, and none is due later than one that arrives now
abbrev pub DuesInOrder : ℕ → LaneModel → Type 0
DuesInOrder now l = in_order 0 (now + l.task.deadline) l.pending ≡ true

-- the same of each lane, as a test
abbrev pub all_in_order : ℕ → List LaneModel → Bool
all_in_order now [] = true
all_in_order now (l ∷ ls) = in_order 0 (now + l.task.deadline) l.pending && all_in_order now ls

-- each released job has something left, and at most the largest cost
abbrev pub costs_within : List Released → Bool
costs_within [] = true
costs_within (j ∷ js) = (nat_le 1 j.remaining && nat_le j.remaining 1024) && costs_within js

-- what a state has
pub record WellFormed (s : StateModel) : Type 0 where
  pub few_tasks : length s.lanes ≤ 8
  pub lanes : AllByRecursion LaneFormed s.lanes
  pub dues : AllByRecursion (DuesInOrder s.clock) s.lanes
  -- the shares leave a sixteenth of the processor free
  pub light : shares (state_tasks s) ≤ 960
  pub readable : s.clock ≤ last_reading
  pub few_released : length s.released ≤ 32
  pub released : costs_within s.released ≡ true
  -- the cost granted is held at 1025, and 0 when idle
  pub held : s.granted ≤ 1025
  pub settled : idle s ≡ true → s.granted ≡ 0
