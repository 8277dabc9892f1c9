-- What remains of released jobs is bounded by the largest cost.
use Rattle.std.proofs.Common.{◌≡◌, ◌*◌, ◌≤◌, true, ◌&&◌, leb, List, [], ◌∷◌, length, sum_by, refl, arith}
use Rattle.std.proofs.lemmas.Bool.{and_parts, leb-true}
use Rattle.bounded.specs.List.{items}
use Rattle.fit.proofs.Formed.{few_items}
use Rattle.fit.specs.State.{work_of}
use Rattle.fit.specs.WellFormed.{costs_within}
use Rattle.lanes.specs.declared.released.Released.{Released}
use Rattle.state.specs.declared.state.State.{State}
use Rattle.tasks.proofs.Sums.{sum_by_total}

work-le : (js : List Released) → costs_within js ≡ true → work_of js ≤ length js * 1024
work-le [] w = omega arith
work-le (j ∷ js) w =
    let both = and_parts (leb 1 j.remaining && leb j.remaining 1024) (costs_within js) w in
    omega (arith, leb-true j.remaining 1024 (and_parts (leb 1 j.remaining) (leb j.remaining 1024) both.0).1, work-le js both.1)

-- the sum that the chain finds
pub sum_by_work : (js : List Released) → sum_by (λ j. j.remaining) js ≡ work_of js
sum_by_work = sum_by_total (λ j. j.remaining) work_of refl (λ j js. refl)

-- at most 32 jobs are released
pub released_work-le : (s : State) → work_of (items s.released) ≤ 32768
released_work-le s = omega (arith, work-le (items s.released) s.costs, few_items s.released)
