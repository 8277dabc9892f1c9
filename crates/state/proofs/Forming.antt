-- Every state that code holds is well formed: the ghost fields of its types say so.
use Rattle.std.proofs.Common.{◌≡◌, ℕ, ◌+◌, true, List, [], ◌∷◌, map, sym, ◌∙◌, arith}
use Rattle.std.proofs.lemmas.List.{length-map}
use Rattle.std.proofs.lemmas.Bool.{and_parts, cond-true}
use Rattle.std.specs.List.{AllByRecursion}
use Rattle.bounded.specs.List.{items}
use Rattle.fit.proofs.Formed.{few_items, lanes_formed}
use Rattle.fit.specs.WellFormed.{DuesInOrder, WellFormed, all_in_order}
use Rattle.fit.specs.State.{idle}
use Rattle.lanes.specs.Job.{in_order}
use Rattle.lanes.specs.Lane.{LaneModel, lane_of}
use Rattle.state.specs.State.{state_of}
use Rattle.state.specs.declared.state.State.{State}

each_in_order : (now : ℕ) (ls : List LaneModel) → all_in_order now ls ≡ true → AllByRecursion (DuesInOrder now) ls
each_in_order now [] e = tt
each_in_order now (l ∷ ls) e =
    let parts = and_parts (in_order 0 (now + l.task.deadline) l.pending) (all_in_order now ls) e in
    (parts.0, each_in_order now ls parts.1)

pub well_formed : (s : State) → WellFormed (state_of s)
well_formed s =
    let lanes = items s.lanes.lanes in
    record {
      few_tasks = omega (arith, length-map lanes lane_of, few_items s.lanes.lanes);
      lanes = lanes_formed lanes;
      dues = each_in_order s.clock (map lane_of lanes) s.dues;
      light = s.lanes.light;
      readable = s.readable;
      few_released = few_items s.released;
      released = s.costs;
      held = s.held;
      settled = λ e. sym (cond-true (idle (state_of s)) s.granted 0 e) ∙ s.settled;
    }
