use Rattle.std.proofs.Common.{map, arith}
use Rattle.lanes.specs.Lane.{lane_of}
use Rattle.search.proofs.Weighings.{asked_by_staircases}
use Rattle.search.proofs.bound.StaircasesBound.ahead.Goals as goal

pub returns : goal.returns
returns c = λ y. omega (arith, asked_by_staircases (map lane_of c.args.before.now) y)
