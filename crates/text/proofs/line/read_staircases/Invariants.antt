use Rattle.std.proofs.Common.{◌≡◌, ◌-◌, ◌≤◌, length}
use Rattle.bounded.specs.List.{items}
use Rattle.text.specs.Line.{staircases, staircases_after}
use Rattle.text.specs.Views.{bytes_of, left_of}
use Rattle.text.proofs.line.read_staircases.Given as goal

abbrev pub invariant-loop-cursor : goal.invariant-loop-cursor
invariant-loop-cursor l = record {
  answer : staircases_after (4 - length (items l.pairs)) (items l.pairs) (bytes_of l.fn.cursor) (left_of l.cursor) ≡ staircases (bytes_of l.fn.cursor) (left_of l.fn.cursor);
  same : bytes_of l.cursor ≡ bytes_of l.fn.cursor;
  few : length (items l.pairs) ≤ 4;
}

abbrev pub decreases-loop-cursor : goal.decreases-loop-cursor
decreases-loop-cursor l = 4 - length (items l.pairs)
