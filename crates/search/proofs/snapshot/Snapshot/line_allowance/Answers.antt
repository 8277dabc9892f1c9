use Rattle.std.proofs.Common.{sym, subst}
use Rattle.bounded.specs.List.{items}
use Rattle.fit.proofs.Allowances.{line_found, line_passes}
use Rattle.fit.proofs.Formed.{lanes_formed}
use Rattle.fit.specs.Line.{LinePasses}
use Rattle.lanes.specs.Lanes.{lanes_of}
use Rattle.search.proofs.snapshot.Snapshot.line_allowance.Goals as goal

pub returns : goal.returns
returns c =
    let clock = c.args.self.clock in
    let lanes = c.args.self.lanes.now in
    let formed = lanes_formed (items lanes.lanes) in
    let found = line_found clock c.greatest.result (lanes_of lanes) formed lanes.light c.greatest.ensures.top c.greatest.ensures.passes in
    record { value = found; greatest = subst (LinePasses clock (lanes_of lanes)) (sym found) (line_passes clock (lanes_of lanes) formed lanes.light) }
