use Rattle.std.proofs.Common.{sym, subst}
use Rattle.bounded.specs.List.{items}
use Rattle.fit.proofs.Allowances.{exact_found, exact_fits}
use Rattle.fit.proofs.Formed.{lanes_formed}
use Rattle.fit.specs.Exact.{ExactlyFits}
use Rattle.lanes.specs.Lanes.{lanes_of}
use Rattle.search.proofs.snapshot.Snapshot.exact_allowance.Goals as goal

pub returns : goal.returns
returns c =
    let clock = c.args.self.clock in
    let lanes = c.args.self.lanes.now in
    let formed = lanes_formed (items lanes.lanes) in
    let found = exact_found clock c.greatest.result (lanes_of lanes) formed lanes.light c.greatest.ensures.top c.greatest.ensures.passes in
    record { value = found; greatest = subst (ExactlyFits clock (lanes_of lanes)) (sym found) (exact_fits clock (lanes_of lanes) formed lanes.light) }
