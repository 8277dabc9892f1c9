use Rattle.std.proofs.Common.{◌≡◌, ◌+◌, map, take, drop}
use Rattle.bounded.specs.List.{items}
use Rattle.tasks.specs.Making.{staircase_from, wrong_staircase}
use Rattle.tasks.specs.Staircase.{staircase_of}
use Rattle.tasks.proofs.making.make_staircases.Given as goal

abbrev pub invariant-loop-i : goal.invariant-loop-i
invariant-loop-i l =
    (wrong_staircase 1 l.pairs ≡ wrong_staircase (l.i + 1) (drop l.i l.pairs))
    × (map staircase_of (items l.staircases) ≡ map staircase_from (take l.i l.pairs))
