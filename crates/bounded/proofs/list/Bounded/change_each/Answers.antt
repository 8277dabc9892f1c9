use Rattle.std.proofs.Common.{◌≡◌, map, length, sym, ap, ◌∙◌, arith, rules}
use Rattle.std.proofs.lemmas.List.{append_assoc, length-map, take_all, take_at}
use Rattle.bounded.proofs.Slots.{changed_all, changed_more, put_back, whole_part}
use Rattle.bounded.proofs.list.Bounded.change_each.Goals as goal

pub loop-element-preserved : goal.loop-element-preserved
loop-element-preserved g c =
    let here = c.loop-element.element-items in
    changed_more g.T.Change.view (g.T.Change.after c.args.event) _ here c.loop-element.element-index c.loop-element.invariant c.change.new.self _ (omega (arith, c.loop-element.auto.element-items, c.loop-element-test.true)) (length-map _ g.T.Change.view ∙ sym c.loop-element.auto.element-items) c.change.ensures

pub returns : goal.returns
returns g c =
    let here = c.loop-element.element-items in
    let long : length here ≡ c.args.self.now.len = omega (arith, c.loop-element.auto.element-items) in
    ap (map g.T.Change.view) (search (rules, long, append_assoc, take_at, put_back))
    ∙ changed_all g.T.Change.view (g.T.Change.after c.args.event) _ here c.loop-element.element-index c.loop-element.invariant (simp length-map c.loop-element-test.false)
    ∙ ap (λ u. map (g.T.Change.after c.args.event) (map g.T.Change.view u)) (search (rules, take_all, whole_part))
