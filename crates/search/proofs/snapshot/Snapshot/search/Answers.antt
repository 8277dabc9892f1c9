use Rattle.std.proofs.Common.{ℕ, ◌+◌, ◌*◌, ◌∙◌, sym, subst, arith}
use Rattle.fit.proofs.Formed.{lane_formed}
use Rattle.fit.proofs.Rates.{load_rate}
use Rattle.fit.specs.Fit.{MisfitAfter, ahead}
use Rattle.lanes.specs.Demand.{demand, load}
use Rattle.lanes.specs.Lane.{lane_of}
use Rattle.search.specs.Ahead.{ahead_at}
use Rattle.search.proofs.Fronts.{before, front_bounds, front_more, front_stays_light}
use Rattle.search.proofs.Misfits.{fit_more, fits_by_weight, misfit_here}
use Rattle.search.proofs.Searches.{Searched, demand_rises, long_enough, searched_enough, searched_idle, searched_misfit}
use Rattle.search.proofs.Weighings.{asked_by_staircases}
use Rattle.search.proofs.snapshot.Snapshot.search.Goals as goal
use Rattle.search.proofs.snapshot.Snapshot.search.Goals.{then-demand-gt0+in-Some, else-demand-gt0}

pub add-requires : goal.add-requires
add-requires c =
    front_stays_light c.as_slice-lanes.result.now c.loop-i.i c.index-lanes-i.result c.loop-i.invariant.0 c.args.self.lanes.now c.as_slice-lanes.ensures.value
    c.as_slice-lanes.ensures.bound c.loop-i-test.true c.index-lanes-i.is

pub loop-length-preserved : goal.loop-length-preserved
loop-length-preserved c =
    let lane = c.index-lanes-i.result in
    let clock = c.args.self.clock in
    let length = c.loop-length.length in
    let asked = c.demand-demand.ensures.value in
    let Next : ℕ → Type 0 = Searched c.args.amount (demand clock (lane_of lane)) (ahead_at c.ahead-ahead.result) (length + 1) in
    elim c.if-demand-gt0.branch [
      | then-demand-gt0+in-Some w ↦
          let found = w.in-Some.ensures in
          subst Next (sym w.enough-is)
          (searched_enough c.loop-length.invariant w.in-Some.first (demand_rises clock (lane_of lane) (lane_formed lane) length)
          (omega (arith, found.1)) (omega (arith, found.2, asked)) (λ y from lt. omega (arith, found.3 y from lt, asked)))
      | else-demand-gt0 w ↦ subst Next (sym w.enough-is) (searched_idle c.loop-length.invariant (omega (arith, asked, w.if-demand-gt0.false)))
    ]

pub loop-i-preserved : goal.loop-i-preserved
loop-i-preserved c =
    let lanes = c.as_slice-lanes.result.now in
    let i = c.loop-i.i in
    let lane = c.index-lanes-i.result in
    let clock = c.args.self.clock in
    let w = c.args.amount in
    let d = demand clock (lane_of lane) in
    let A = ahead_at c.ahead-ahead.result in
    let front = c.add.new.self in
    let below = front_bounds lanes i lane c.loop-i.invariant.0 (λ l y. 1024 * load l y) load_rate clock A c.ahead-ahead.ensures c.add.ensures in
    let tells = fits_by_weight w d (ahead (before i lanes)) A (λ y. c.ahead-ahead.ensures y ∙ asked_by_staircases (before i lanes) y) in
    let weighs = long_enough front.standing front.shares front.light d A below w c.horizon-length-end.result w c.horizon-length-end.ensures.far (omega arith)
    (λ x lt. c.loop-length.invariant.passes x (omega (arith, c.loop-length-test.false))) in (
      c.add.ensures ∙ front_more lanes i lane c.loop-i.invariant.0 c.loop-i-test.true c.index-lanes-i.is,
      fit_more clock w lanes i lane c.loop-i-test.true c.index-lanes-i.is c.loop-i.invariant.1 (tells.0 weighs),
    )

pub returns-in_default : goal.returns-in_default
returns-in_default c =
    let lanes = c.as_slice-lanes.result.now in
    let i = c.loop-i.i in
    let lane = c.index-lanes-i.result in
    let clock = c.args.self.clock in
    let w = c.args.amount in
    let A = ahead_at c.ahead-ahead.result in
    let asked = c.demand-demand.ensures.value in
    let short = c.in_default.ensures in
    let tells = fits_by_weight w (demand clock (lane_of lane)) (ahead (before i lanes)) A (λ y. c.ahead-ahead.ensures y ∙ asked_by_staircases (before i lanes) y) in (
      i,
      omega arith,
      subst (MisfitAfter clock w (λ y. 0) i) c.as_slice-lanes.ensures.value
          (misfit_here clock w lanes i lane c.loop-i-test.true c.index-lanes-i.is c.loop-i.invariant.1
          (λ fits. searched_misfit c.loop-length.invariant (omega (arith, asked, c.if-demand-gt0.true))
          (λ y from lt. omega (arith, short y from lt, asked)) (tells.1 fits))),
    )
