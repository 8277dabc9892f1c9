use Rattle.std.proofs.Common.{◌≡◌, ◌&&◌, leb, map, sym, ap, ◌∙◌, arith}
use Rattle.bounded.specs.List.{items}
use Rattle.fit.specs.WellFormed.{all_in_order, costs_within}
use Rattle.fit.specs.State.{none, none_pending}
use Rattle.lanes.specs.Lane.{fresh_lane}
use Rattle.lanes.specs.Lanes.{lanes_made, lanes_of}
use Rattle.tasks.specs.Draft.{draft_of}
use Rattle.tasks.specs.TaskSet.{shares}
use Rattle.state.proofs.Freshness.{fresh_exact, fresh_in_order, made_fresh, nothing_granted}
use Rattle.state.proofs.state.State.new.Goals as goal

pub invariant_of-result : goal.invariant_of-result
invariant_of-result c =
    let ts = draft_of c.args.draft.now in
    let ls = lanes_of c.in_ok-lanes.lanes in
    let fresh : ls ≡ map fresh_lane ts = made_fresh (leb (shares ts) 960) ls (map fresh_lane ts) (sym (ap lanes_made c.in_ok-lanes.ensures.ok_part) ∙ c.new.ensures) in
    record {
      readable = omega (arith, c.if-reading-gt-LAST_READING.false);
      dues = ap (all_in_order c.args.reading) fresh ∙ fresh_in_order c.args.reading ts;
      costs = ap costs_within c.new-2.ensures;
      held = omega arith;
      settled = nothing_granted (none_pending ls && none (items c.new-2.result));
      fresh = c.exact_allowance.ensures.value ∙ fresh_exact ls ts fresh;
    }
