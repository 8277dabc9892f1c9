-- A draft is the list of its tasks, the one with the highest priority first.
use Rattle.std.specs.Prelude.{ℕ, ◌+◌, cond, List, [], ◌∷◌, ◌++◌, map, length, nat_lt}
use Rattle.bounded.specs.List.{items}
use Rattle.tasks.specs.EntryRefusal.{entry_refusal}
use Rattle.tasks.specs.Reply.{Reply, refused, served}
use Rattle.tasks.specs.Task.{TaskModel, task_of}
use Rattle.tasks.specs.declared.draft.Draft.{Draft}
use Rattle.tasks.specs.declared.refusal.EntryRefusal.TheVariants.{DraftFull}

-- the tasks that a draft holds
abbrev pub draft_of : Draft → List TaskModel
draft_of d = map task_of (items d.tasks)

-- a ninth task is refused before anything else about it is looked at
abbrev pub unless_full : List TaskModel → Reply TaskModel → Reply TaskModel
unless_full ts made = cond (nat_lt (length ts) 8) made (refused (entry_refusal DraftFull))

-- the number of the task that is served, counted from 1, where it comes behind these
abbrev pub numbered : List TaskModel → Reply TaskModel → Reply ℕ
numbered ts (served t) = served (length ts + 1)
numbered ts (refused r) = refused r

-- these tasks with the one that is served behind them; a refusal adds none
abbrev pub joined_by : List TaskModel → Reply TaskModel → List TaskModel
joined_by ts (served t) = ts ++ t ∷ []
joined_by ts (refused r) = ts

-- entering what `made` tells of into a draft of these tasks: the answer, and the draft then
abbrev pub entry_answer : List TaskModel → Reply TaskModel → Reply ℕ
entry_answer ts made = numbered ts (unless_full ts made)

abbrev pub entered : List TaskModel → Reply TaskModel → List TaskModel
entered ts made = joined_by ts (unless_full ts made)
