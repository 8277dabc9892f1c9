use Rattle.std.proofs.Common.{◌≡◌, ◌++◌, map, take, drop}
use Rattle.bounded.proofs.list.Bounded.change_each.Given as goal

abbrev pub invariant-loop-element : goal.invariant-loop-element
invariant-loop-element g l =
    let old = map g.T.Change.view l.initial.element-items in
    map g.T.Change.view l.element-items ≡ map (g.T.Change.after l.event) (take l.element-index old) ++ drop l.element-index old
