use Rattle.std.proofs.Common.{◌≡◌, ◌++◌, take}
use Rattle.bounded.specs.List.{items}
use Rattle.bounded.proofs.list.Bounded.extend.Given as goal

abbrev pub invariant-loop-element : goal.invariant-loop-element
invariant-loop-element g l = items l.self ≡ take g.row.N (items l.initial.self ++ take l.element-index l.elements)
