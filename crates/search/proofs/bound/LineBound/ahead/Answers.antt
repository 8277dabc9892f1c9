use Rattle.std.proofs.Common.{◌+◌, ◌*◌, map, ap, arith}
use Rattle.lanes.specs.Lane.{lane_of}
use Rattle.search.specs.Front.{FrontModel}
use Rattle.search.proofs.Weighings.{asked_by_lines}
use Rattle.search.proofs.bound.LineBound.ahead.Goals as goal

pub returns : goal.returns
returns c = λ y. omega (arith, ap (λ (f : FrontModel). f.start + f.shares * y) c.requires.theirs, asked_by_lines (map lane_of c.args._before.now) y)
