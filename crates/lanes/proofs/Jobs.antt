-- The pending jobs of a task: what remains of them all, and of those that are due, is bounded by the execution limit.
use Rattle.std.proofs.Common.{◌≡◌, ℕ, ◌*◌, ◌≤◌, Bool, true, false, cond, ◌&&◌, leb, List, [], ◌∷◌, length, sum_by, refl, mul-le-mul_right, length-take, arith}
use Rattle.std.proofs.lemmas.Bool.{and_parts, leb-true}
use Rattle.bounded.specs.List.{items}
use Rattle.lanes.specs.Job.{backlog, due_by, within_limit}
use Rattle.lanes.specs.declared.job.Job.{Job}
use Rattle.lanes.specs.declared.lane.Lane.{Lane}
use Rattle.tasks.proofs.Sums.{sum_by_total}

pub backlog-le : (limit : ℕ) (js : List Job) → within_limit limit js ≡ true → backlog js ≤ length js * limit
backlog-le limit [] w = omega arith
backlog-le limit (j ∷ js) w =
    let both = and_parts (leb 1 j.remaining && leb j.remaining limit) (within_limit limit js) w in
    omega (arith, leb-true j.remaining limit (and_parts (leb 1 j.remaining) (leb j.remaining limit) both.0).1, backlog-le limit js both.1)

part-le : (b : Bool) (n : ℕ) → cond b n 0 ≤ n
part-le true n = omega arith
part-le false n = omega arith

pub due_by-le-backlog : (t : ℕ) (js : List Job) → due_by t js ≤ backlog js
due_by-le-backlog t [] = omega arith
due_by-le-backlog t (j ∷ js) = omega (arith, part-le (leb j.due t) j.remaining, due_by-le-backlog t js)

-- the sums that the chains find
pub sum_by_backlog : (js : List Job) → sum_by (λ j. j.remaining) js ≡ backlog js
sum_by_backlog = sum_by_total (λ j. j.remaining) backlog refl (λ j js. refl)

pub sum_by_due : (t : ℕ) (js : List Job) → sum_by (λ j. cond (leb j.due t) j.remaining 0) js ≡ due_by t js
sum_by_due t = sum_by_total (λ j. cond (leb j.due t) j.remaining 0) (due_by t) refl (λ j js. refl)

-- at most eight jobs are pending, each with at most 64 ticks left
pub lane_backlog-le : (l : Lane) → backlog (items l.pending) ≤ 512
lane_backlog-le l =
    let few : length (items l.pending) ≤ 8 = omega (arith, length-take l.pending.len l.pending.slots, l.pending.within) in
    omega (arith, backlog-le l.task.limit (items l.pending) l.worked, mul-le-mul_right l.task.limit few, l.task.limit_below)
