use Rattle.std.proofs.Common.{◌≡◌, length, map, sum_by, refl, ap, ◌∙◌, arith, rules}
use Rattle.std.proofs.iter.runs.Made.{chains}
use Rattle.bounded.specs.List.{items}
use Rattle.fit.proofs.Formed.{few_items}
use Rattle.fit.specs.State.{pending_count}
use Rattle.lanes.specs.Lane.{lane_of}
use Rattle.lanes.specs.declared.lane.Lane.{Lane}
use Rattle.tasks.proofs.Sums.{sum_by_total, total-le}
use Rattle.state.proofs.state.State.pending_count.Goals as goal

pub returns : goal.returns
returns c =
    let lanes = c.as_slice.result.now in
    let part = λ (l : Lane). length (items l.pending) in
    let found : c.sum.result ≡ sum_by part lanes = search (rules, chains) in
    let all : c.sum.result ≡ pending_count (map lane_of lanes) = found ∙ sum_by_total part (λ ls. pending_count (map lane_of ls)) refl (λ l ls. refl) lanes in
    record {
      value = all ∙ ap pending_count c.as_slice.ensures.value;
      bound = omega (arith, all, total-le part (λ ls. pending_count (map lane_of ls)) refl (λ l ls. refl) 8 (λ l. few_items l.pending) lanes, c.as_slice.ensures.bound);
    }
