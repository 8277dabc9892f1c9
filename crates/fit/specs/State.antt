-- The state of a processor, which is all that a rule may read.
use Rattle.std.specs.Prelude.{ℕ, ◌+◌, Bool, true, false, ◌&&◌, List, [], ◌∷◌, map, length}
use Rattle.tasks.specs.Task.{TaskModel}
use Rattle.lanes.specs.Lane.{LaneModel, fresh_lane, tasks_of}
use Rattle.lanes.specs.declared.released.Released.{Released}

-- the reading of the clock; the lanes, the one with the highest priority first; the background jobs handed out and not ended, oldest first;
-- and the cost handed out since the processor was last idle, held at 1025 once above 1024
pub record StateModel : Type 0 where
  pub clock : ℕ
  pub lanes : List LaneModel
  pub released : List Released
  pub granted : ℕ

-- what remains of the released background jobs
abbrev pub work_of : List Released → ℕ
work_of [] = 0
work_of (j ∷ js) = j.remaining + work_of js

-- W: that of a state
abbrev pub released_work : StateModel → ℕ
released_work s = work_of s.released

-- whether a list has no element
abbrev pub none : {A : Type 0} → List A → Bool
none [] = true
none (x ∷ xs) = false

-- whether no job is pending in these lanes
abbrev pub none_pending : List LaneModel → Bool
none_pending [] = true
none_pending (l ∷ ls) = none l.pending && none_pending ls

-- how many jobs are pending in these lanes
abbrev pub pending_count : List LaneModel → ℕ
pending_count [] = 0
pending_count (l ∷ ls) = length l.pending + pending_count ls

-- idle: no critical job is pending and no background job released
abbrev pub idle : StateModel → Bool
idle s = none_pending s.lanes && none s.released

-- the state freshly opened on these tasks at this reading of the clock
abbrev pub fresh_state : ℕ → List TaskModel → StateModel
fresh_state reading ts = record { clock = reading; lanes = map fresh_lane ts; released = []; granted = 0 }

-- the tasks of a state
abbrev pub state_tasks : StateModel → List TaskModel
state_tasks s = tasks_of s.lanes
