-- The faults of a table as refusals: 17, the text is too long; 18, a byte that the form does not allow; 19, a numeral that is
-- not allowed; 20, a line whose entry is refused; 21, a buffer too short for the table.
use Rattle.std.specs.Prelude.{[], ◌∷◌}
use Rattle.tasks.specs.EntryRefusal.{entry_refusal}
use Rattle.tasks.specs.Reply.{Refusal, plain}
use Rattle.text.specs.Line.{entry_fault}
use Rattle.text.specs.Reading.{at_place}
use Rattle.text.specs.declared.fault.LineCause.{LineCause}
use Rattle.text.specs.declared.fault.LineCause.TheVariants.{Byte, Entry, Numeral}
use Rattle.text.specs.declared.fault.LineFault.{LineFault}
use Rattle.text.specs.declared.fault.NumeralFault.{NumeralFault}
use Rattle.text.specs.declared.fault.NumeralFault.TheVariants.{LeadingZero, TooLarge}
use Rattle.text.specs.declared.fault.TableFault.{TableFault}
use Rattle.text.specs.declared.fault.TableFault.TheVariants.{Line, TooLong}
use Rattle.text.specs.declared.fault.WriteRefusal.{WriteRefusal}
use Rattle.text.specs.declared.fault.WriteRefusal.TheVariants.{ShortBuffer}

-- a numeral has the place of its first byte in the line, and why it is not allowed
abbrev pub numeral_refusal : NumeralFault → Refusal
numeral_refusal (LeadingZero offset) = record { number = 19; values = offset ∷ 1 ∷ [] }
numeral_refusal (TooLarge offset) = record { number = 19; values = offset ∷ 2 ∷ [] }

-- so has a byte, and an entry has its own refusal
abbrev pub cause_refusal : LineCause → Refusal
cause_refusal (Byte offset) = record { number = 18; values = offset ∷ [] }
cause_refusal (Numeral f) = numeral_refusal f
cause_refusal (Entry r) = entry_fault (entry_refusal r)

-- the line adds the place of its first byte in the text
abbrev pub line_refusal : LineFault → Refusal
line_refusal f = at_place f.start (cause_refusal f.cause)

-- the table adds the line's number
abbrev pub table_refusal : TableFault → Refusal
table_refusal TooLong = plain 17
table_refusal (Line number f) = at_place number (line_refusal f)

-- the writer's one refusal
abbrev pub write_refusal : WriteRefusal → Refusal
write_refusal ShortBuffer = plain 21
