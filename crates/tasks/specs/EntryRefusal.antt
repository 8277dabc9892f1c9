-- Why a task is not entered, by number and values.
use Rattle.tasks.specs.Quantity.{quantity}
use Rattle.tasks.specs.Reply.{Refusal, plain}
use Rattle.tasks.specs.declared.refusal.EntryRefusal.{EntryRefusal}
use Rattle.tasks.specs.declared.refusal.EntryRefusal.TheVariants.{DraftFull, OutOfRange, TooManyPending}

-- 1, the draft is full; 2, a quantity is out of its range, and which; 3, too many jobs could be pending
abbrev pub entry_refusal : EntryRefusal → Refusal
entry_refusal DraftFull = plain 1
entry_refusal (OutOfRange q) = record { number = 2; values = quantity q }
entry_refusal TooManyPending = plain 3
