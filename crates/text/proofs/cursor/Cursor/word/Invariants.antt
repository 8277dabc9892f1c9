use Rattle.std.proofs.Common.{◌≡◌, drop}
use Rattle.text.specs.Views.{bytes_of, left_of}
use Rattle.text.specs.Bytes.{expect_all}
use Rattle.text.proofs.cursor.Cursor.word.Given as goal

abbrev pub invariant-loop-byte : goal.invariant-loop-byte
invariant-loop-byte l =
    (expect_all (drop l.byte-index l.word) (bytes_of l.initial.self) (left_of l.self) ≡ expect_all l.word (bytes_of l.initial.self) (left_of l.initial.self))
    × (bytes_of l.self ≡ bytes_of l.initial.self)
