-- What lanes may ask together by their staircases.
use Rattle.std.proofs.Common.{◌≡◌, ℕ, ◌+◌, ◌*◌, ◌/◌, ◌≤◌, List, [], ◌∷◌, map, length, sum_by, refl, mul-le-mul, arith}
use Rattle.std.proofs.Math.Nat.{div-le_self}
use Rattle.fit.proofs.Formed.{lane_formed}
use Rattle.fit.proofs.Horizons.{standing_at_most_peak}
use Rattle.fit.proofs.Rates.{arrivals_rate, long_staircase_formed}
use Rattle.fit.specs.Fit.{ahead}
use Rattle.fit.specs.WellFormed.{LaneFormed}
use Rattle.lanes.specs.Demand.{load}
use Rattle.lanes.specs.Job.{backlog}
use Rattle.lanes.specs.Lane.{LaneModel, lane_of}
use Rattle.lanes.specs.declared.lane.Lane.{Lane}
use Rattle.tasks.proofs.Sums.{sum_by_total, total-le}
use Rattle.tasks.specs.Staircase.{StaircaseModel, long_staircase}

-- a backlog L of at most eight jobs with the limit c, and F arrivals: at most a burst b and one in each of q steps of y instants
with_arrivals : (L c F b q y : ℕ) → L ≤ c * 8 → c ≤ 64 → F ≤ b + q → b ≤ 8 → q ≤ y → L + c * F ≤ 1024 + 64 * y
with_arrivals L c F b q y jobs limit arrivals burst steps =
    let few : F ≤ 8 + y = omega arith in
    omega (arith, mul-le-mul limit few)

lane_load : (l : Lane) (y : ℕ) → load (lane_of l) y ≤ 1024 + 64 * y
lane_load l y =
    let m : LaneModel = lane_of l in
    let ok : LaneFormed m = lane_formed l in
    let long : StaircaseModel = long_staircase m.task.staircases in
    with_arrivals (backlog m.pending) m.task.limit _ long.burst (y / long.step) y
    (omega (arith, standing_at_most_peak (m ∷ []) (ok, tt)))
    ok.task.limit_below (arrivals_rate m ok y) (long_staircase_formed m.task ok.task).burst_below (div-le_self y long.step)

pub loads_sum : (y : ℕ) (ls : List Lane) → sum_by (λ l. load (lane_of l) y) ls ≡ ahead (map lane_of ls) y
loads_sum y = sum_by_total (λ l. load (lane_of l) y) (λ ls. ahead (map lane_of ls) y) refl (λ l ls. refl)

pub loads_bound : (y : ℕ) (ls : List Lane) → ahead (map lane_of ls) y ≤ length ls * (1024 + 64 * y)
loads_bound y = total-le (λ l. load (lane_of l) y) (λ ls. ahead (map lane_of ls) y) refl (λ l ls. refl) (1024 + 64 * y) (λ l. lane_load l y)
