use Rattle.std.proofs.Common.{◌≡◌, ◌++◌, get_or, take, ap, ◌∙◌, arith, rules}
use Rattle.std.proofs.lemmas.List.{take_all}
use Rattle.bounded.specs.List.{items}
use Rattle.bounded.proofs.Pushes.{pushed_more}
use Rattle.bounded.proofs.Slots.{whole_part}
use Rattle.bounded.proofs.list.Bounded.extend.Goals as goal

pub loop-element-preserved : goal.loop-element-preserved
loop-element-preserved g c =
    let x = c.element-item.result in
    let i = c.loop-element.element-index in
    let all = c.args.elements.now in
    let here : x ≡ get_or all i x = c.element-item.is ∙ ap (λ xs. get_or xs i x) (search (rules, take_all, whole_part)) in
    c.push.ensures.after ∙ pushed_more g.row.N i (items c.args.self.now) (items c.loop-element.self) all x c.loop-element.invariant (omega (arith, c.loop-element-test.true)) here

pub returns : goal.returns
returns g c =
    let all = c.args.elements.now in
    c.loop-element.invariant ∙ ap (λ xs. take g.row.N (items c.args.self.now ++ xs)) (take_all c.loop-element.element-index all (omega (arith, c.loop-element-test.false)))
