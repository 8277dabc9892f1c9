use Rattle.std.proofs.Common.{◌∙◌, arith}
use Rattle.search.proofs.Fronts.{front_bounds, front_more, front_stays_light}
use Rattle.search.proofs.Turns.{turn_left}
use Rattle.search.proofs.snapshot.Snapshot.greatest.Goals as goal

pub add-requires : goal.add-requires
add-requires g c =
    front_stays_light c.as_slice-lanes.result.now c.loop-i.i c.index-lanes-i.result c.loop-i.invariant.0 c.args.self.lanes.now c.as_slice-lanes.ensures.value
    c.as_slice-lanes.ensures.bound c.loop-i-test.true c.index-lanes-i.is

pub invariant_of-turn : goal.invariant_of-turn
invariant_of-turn g c =
    record { below = front_bounds c.as_slice-lanes.result.now c.loop-i.i c.index-lanes-i.result c.loop-i.invariant.0 g.B.Bound.adds g.met.B.Bound.rated c.args.self.clock _ c.ahead-ahead.ensures c.add.ensures }

pub loop-i-preserved : goal.loop-i-preserved
loop-i-preserved g c =
    let lanes = c.as_slice-lanes.result.now in
    let i = c.loop-i.i in
    let lane = c.index-lanes-i.result in (
      c.add.ensures ∙ front_more lanes i lane c.loop-i.invariant.0 c.loop-i-test.true c.index-lanes-i.is,
      omega (arith, c.margin-margin.ensures.bound, c.loop-i.invariant.1),
      turn_left g.B.Bound.adds c.args.self.clock c.loop-i.margin c.margin-margin.result lanes i lane _ c.loop-i-test.true c.index-lanes-i.is c.ahead-ahead.ensures c.margin-margin.ensures.passes c.loop-i.invariant.2,
    )
