-- The lanes of tasks that have had no arrival, and the states that are freshly opened on them.
use Rattle.std.proofs.Common.{◌≡◌, ℕ, ◌≤◌, true, List, [], ◌∷◌, map, length, sym, refl, ap, subst, arith}
use Rattle.std.proofs.lemmas.List.{length-map}
use Rattle.std.specs.List.{AllByRecursion}
use Rattle.arrivals.specs.Bucket.{full}
use Rattle.arrivals.specs.Clock.{last_reading}
use Rattle.arrivals.specs.Counter.{sound}
use Rattle.fit.specs.WellFormed.{DuesInOrder, LaneFormed, TaskFormed, WellFormed}
use Rattle.fit.specs.State.{fresh_state, none_pending}
use Rattle.lanes.proofs.Fresh.{tasks_of_fresh}
use Rattle.lanes.specs.Lane.{LaneModel, fresh_lane, fresh_lanes, tasks_of}
use Rattle.tasks.specs.Staircase.{StaircaseModel}
use Rattle.tasks.specs.Task.{TaskModel}
use Rattle.tasks.specs.TaskSet.{shares}

-- the lanes of the same tasks
pub fresh_by_tasks : (ls : List LaneModel) → map fresh_lane (tasks_of ls) ≡ fresh_lanes ls
fresh_by_tasks [] = refl
fresh_by_tasks (l ∷ ls) = ap (λ ms. fresh_lane l.task ∷ ms) (fresh_by_tasks ls)

staircases_of_full : (ss : List StaircaseModel) → map (λ b. b.staircase) (map full ss) ≡ ss
staircases_of_full [] = refl
staircases_of_full (s ∷ ss) = ap (λ us. s ∷ us) (staircases_of_full ss)

full_sound : (ss : List StaircaseModel) → AllByRecursion (λ b. sound b.staircase b.counter ≡ true) (map full ss)
full_sound [] = tt
full_sound (s ∷ ss) = (refl, full_sound ss)

-- a fresh lane is well formed if its task is
fresh_formed : (t : TaskModel) → TaskFormed t → LaneFormed (fresh_lane t)
fresh_formed t ok = record { task = ok; own = staircases_of_full t.staircases; counters = full_sound t.staircases; few = omega arith; worked = refl }

pub all_fresh_formed : (ls : List LaneModel) → AllByRecursion LaneFormed ls → AllByRecursion LaneFormed (map fresh_lane (tasks_of ls))
all_fresh_formed [] ok = tt
all_fresh_formed (l ∷ ls) ok = (fresh_formed l.task ok.0.task, all_fresh_formed ls ok.1)

pub fresh_light : (ls : List LaneModel) → shares (tasks_of ls) ≤ 960 → shares (tasks_of (map fresh_lane (tasks_of ls))) ≤ 960
fresh_light ls light = rw (tasks_of_fresh (tasks_of ls)) light

pub tasks_fresh_formed : (ts : List TaskModel) → AllByRecursion TaskFormed ts → AllByRecursion LaneFormed (map fresh_lane ts)
tasks_fresh_formed [] ok = tt
tasks_fresh_formed (t ∷ ts) ok = (fresh_formed t ok.0, tasks_fresh_formed ts ok.1)

-- nothing is pending
pub fresh_idle : (ts : List TaskModel) → none_pending (map fresh_lane ts) ≡ true
fresh_idle [] = refl
fresh_idle (t ∷ ts) = fresh_idle ts

-- so no due clock is out of order
fresh_dues : (now : ℕ) (ts : List TaskModel) → AllByRecursion (DuesInOrder now) (map fresh_lane ts)
fresh_dues now [] = tt
fresh_dues now (t ∷ ts) = (refl, fresh_dues now ts)

pub fresh_well_formed : (reading : ℕ) (ts : List TaskModel) → AllByRecursion LaneFormed (map fresh_lane ts) → shares ts ≤ 960 → reading ≤ last_reading → length ts ≤ 8 → WellFormed (fresh_state reading ts)
fresh_well_formed reading ts ok light readable few =
    record {
      few_tasks = omega (arith, length-map ts fresh_lane);
      lanes = ok;
      dues = fresh_dues reading ts;
      light = subst (λ (us : List TaskModel). shares us ≤ 960) (sym (tasks_of_fresh ts)) light;
      readable = readable;
      few_released = omega arith;
      released = refl;
      held = omega arith;
      settled = λ e. refl;
    }
