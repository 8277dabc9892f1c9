use Rattle.std.proofs.Common.{◌≡◌}
use Rattle.fit.specs.Fit.{AllFit}
use Rattle.lanes.specs.Demand.{demand}
use Rattle.lanes.specs.Lane.{lane_of}
use Rattle.search.specs.Ahead.{ahead_at}
use Rattle.search.specs.Front.{front_of}
use Rattle.search.proofs.Fronts.{before, front_before}
use Rattle.search.proofs.Searches.{Searched}
use Rattle.search.proofs.snapshot.Snapshot.search.Given as goal

abbrev pub invariant-loop-i : goal.invariant-loop-i
invariant-loop-i l = (front_of l.front ≡ front_before l.i l.lanes) × AllFit l.self.clock l.amount (λ y. 0) (before l.i l.lanes)

abbrev pub invariant-loop-length : goal.invariant-loop-length
invariant-loop-length l = Searched l.amount (demand l.self.clock (lane_of l.lane)) (ahead_at l.ahead) l.length l.enough
