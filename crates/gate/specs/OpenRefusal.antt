-- Why a gate is not opened, by number and values.
use Rattle.std.specs.Prelude.{[], ◌∷◌}
use Rattle.tasks.specs.Reply.{Refusal, plain}
use Rattle.gate.specs.declared.refusal.OpenRefusal.{OpenRefusal}
use Rattle.gate.specs.declared.refusal.OpenRefusal.TheVariants.{Misfit, NoTask, NothingAllowed, ReadingTooLate, SharesTooLarge}

-- 4, no task; 5, the reading is past the last one; 6, the shares are too large; 7, a task does not fit, and which; 8, nothing is allowed
abbrev pub open_refusal : OpenRefusal → Refusal
open_refusal NoTask = plain 4
open_refusal ReadingTooLate = plain 5
open_refusal SharesTooLarge = plain 6
open_refusal (Misfit k) = record { number = 7; values = k ∷ [] }
open_refusal NothingAllowed = plain 8
