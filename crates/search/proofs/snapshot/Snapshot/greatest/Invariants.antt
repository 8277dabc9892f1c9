use Rattle.std.proofs.Common.{◌≡◌, ◌≤◌, map, drop}
use Rattle.lanes.specs.Lane.{lane_of}
use Rattle.search.specs.Front.{front_of}
use Rattle.search.proofs.Fronts.{before, front_before}
use Rattle.search.proofs.Weighings.{Left}
use Rattle.search.proofs.snapshot.Snapshot.greatest.Given as goal

abbrev pub invariant-loop-i : goal.invariant-loop-i
invariant-loop-i g l =
    (front_of l.front ≡ front_before l.i l.lanes) × (l.margin ≤ 1024)
    × Left g.B.Bound.adds l.self.clock (map lane_of l.lanes) l.margin (before l.i l.lanes) (map lane_of (drop l.i l.lanes))
