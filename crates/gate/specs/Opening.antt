-- Opening a gate.
use Rattle.std.specs.Prelude.{ℕ, zero, suc, Bool, cond, List, [], map, Some, None, Option, nat_lt}
use Rattle.arrivals.specs.Clock.{last_reading}
use Rattle.fit.specs.Search.{first_misfit}
use Rattle.fit.specs.State.{StateModel, fresh_state, none}
use Rattle.lanes.specs.Lane.{fresh_lane}
use Rattle.tasks.specs.Reply.{Reply, refused, served}
use Rattle.tasks.specs.Task.{TaskModel}
use Rattle.tasks.specs.TaskSet.{shares}
use Rattle.gate.specs.Gate.{GateModel}
use Rattle.gate.specs.OpenRefusal.{open_refusal}
use Rattle.gate.specs.declared.refusal.OpenRefusal.{OpenRefusal}
use Rattle.gate.specs.declared.refusal.OpenRefusal.TheVariants.{Misfit, NoTask, NothingAllowed, ReadingTooLate, SharesTooLarge}

-- refused where the test is true, or else what comes after
abbrev pub refused_if : Bool → OpenRefusal → Reply ℕ → Reply ℕ
refused_if b e after = cond b (refused (open_refusal e)) after

-- refused for the first task that does not fit
abbrev pub unless_misfit : Option ℕ → Reply ℕ → Reply ℕ
unless_misfit None after = after
unless_misfit (Some k) after = refused (open_refusal (Misfit k))

-- an opening allowance of 0 is a refusal
abbrev pub allowed : ℕ → Reply ℕ
allowed zero = refused (open_refusal NothingAllowed)
allowed (suc n) = served (suc n)

-- the answer to opening on these tasks at this reading under a rule of this meaning: the opening allowance, or the first refusal in this order
abbrev pub open_answer : (StateModel → ℕ) → ℕ → List TaskModel → Reply ℕ
open_answer meaning reading ts =
    refused_if (none ts) NoTask
    (refused_if (nat_lt last_reading reading) ReadingTooLate
    (refused_if (nat_lt 960 (shares ts)) SharesTooLarge
    (unless_misfit (first_misfit reading 0 (map fresh_lane ts))
    (allowed (meaning (fresh_state reading ts))))))

-- the gate that opening leaves, where the answer to it is known: a refusal changes nothing
abbrev pub opened_by : Reply ℕ → ℕ → List TaskModel → GateModel → GateModel
opened_by (served allowance) reading ts g = record { state = fresh_state reading ts; queue = [] }
opened_by (refused r) reading ts g = g

-- the same by the answer that the definition gives
abbrev pub open_gate : (StateModel → ℕ) → ℕ → List TaskModel → GateModel → GateModel
open_gate meaning reading ts g = opened_by (open_answer meaning reading ts) reading ts g
