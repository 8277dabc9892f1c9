use Rattle.std.proofs.Common.{◌≡◌, ◌+◌, ◌-◌, ◌≤◌, [], length}
use Rattle.tasks.specs.Draft.{draft_of}
use Rattle.text.specs.Reading.{lines}
use Rattle.text.proofs.reader.read_lines.Given as goal

-- each line that was read has a byte at least, so as many turns are left as there are bytes in front of its number
abbrev pub invariant-loop-rest : goal.invariant-loop-rest
invariant-loop-rest l = record {
  answer : lines (length l.text + 1 - l.number) l.number (draft_of l.draft) l.text l.rest ≡ lines (length l.text) 1 [] l.text l.text;
  counted : 1 ≤ l.number;
  within : l.number + length l.rest ≤ length l.text + 1;
}

abbrev pub decreases-loop-rest : goal.decreases-loop-rest
decreases-loop-rest l = length l.rest
