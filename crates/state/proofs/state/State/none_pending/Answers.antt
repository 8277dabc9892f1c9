use Rattle.std.proofs.Common.{◌≡◌, eqb, length, ap, ◌∙◌, rules}
use Rattle.std.proofs.Common.{tests}
use Rattle.std.specs.List.{list_all}
use Rattle.std.proofs.lemmas.Iterator.{YieldsList-from_slice}
use Rattle.std.proofs.lemmas.Iterator.Search.{all_from_yields_List}
use Rattle.fit.specs.State.{none_pending}
use Rattle.lanes.specs.declared.lane.Lane.{Lane}
use Rattle.state.proofs.Idle.{all_none_pending}
use Rattle.bounded.specs.List.{items}
use Rattle.state.proofs.state.State.none_pending.Goals as goal

pub returns : goal.returns
returns c =
    let lanes = c.as_slice.result.now in
    let found : c.all.result ≡ list_all (λ (l : Lane). eqb (length (items l.pending)) 0) lanes =
    all_from_yields_List (λ (l : Lane). eqb (length (items l.pending)) 0) _ _ c.all.result c.all.ensures.ran (YieldsList-from_slice lanes cc) (λ x b q k. search (rules, tests)) in
    found ∙ all_none_pending lanes ∙ ap none_pending c.as_slice.ensures.value
