-- What the ranges in the types of a task say of its share and its peak work.
use Rattle.std.proofs.Common.{◌≡◌, ℕ, zero, suc, ◌+◌, ◌-◌, ◌*◌, ◌/◌, ◌%◌, ◌<◌, ◌≤◌, min, cond, List, [], ◌∷◌, map, div-lt_iff_lt-mul, mul-le-mul_right, arith}
use Rattle.std.proofs.Math.Nat.{div-zero, le-div_iff_mul-le}
use Rattle.std.proofs.lemmas.Grind.{div_ceil_times}
use Rattle.std.proofs.lemmas.Bool.{cond_both}
use Rattle.bounded.specs.List.{items}
use Rattle.tasks.specs.Staircase.{StaircaseModel, longer, longest, long_staircase, staircase_of}
use Rattle.tasks.specs.Task.{share, share_of, task_of}
use Rattle.tasks.specs.TaskSet.{long_burst, peak_of}
use Rattle.tasks.specs.declared.staircase.Staircase.{Staircase}
use Rattle.tasks.specs.declared.task.Task.{Task}

share_of-le : (limit step burst : ℕ) → share_of limit (record { burst = burst; step = step }) ≤ 1024 * limit
share_of-le limit zero burst = omega (arith, div-zero (1024 * limit))
share_of-le limit (suc step) burst =
    let one : 1 ≤ 1024 * limit + 1 = omega arith in
    let some : 0 < suc step = omega arith in
    let within : 1024 * limit + (suc step - 1) < (1024 * limit + 1) * suc step = omega (arith, mul-le-mul_right step one) in
    let less : (1024 * limit + (suc step - 1)) / suc step < 1024 * limit + 1 = (div-lt_iff_lt-mul some).1 within in
    omega arith

longest-burst : (s : StaircaseModel) (ts : List Staircase) → s.burst ≤ 8 → (longest s (map staircase_of ts)).burst ≤ 8
longest-burst s [] h = h
longest-burst s (t ∷ ts) h =
    longest-burst (cond (longer (staircase_of t) s) (staircase_of t) s) ts
    (cond_both (longer (staircase_of t) s) (staircase_of t) s (λ u. u.burst ≤ 8) (λ _. t.burst_below) (λ _. h))

long_burst-le : (ss : List Staircase) → (long_staircase (map staircase_of ss)).burst ≤ 8
long_burst-le [] = omega arith
long_burst-le (s ∷ ss) = longest-burst (staircase_of s) ss s.burst_below

pub share-le : (t : Task) → share (task_of t) ≤ 65536
share-le t =
    let s = long_staircase (task_of t).staircases in
    omega (arith, share_of-le t.limit s.step s.burst, t.limit_below)

pub peak-le : (t : Task) → peak_of (task_of t) ≤ 1024
peak-le t = omega (arith, mul-le-mul_right (8 + long_burst (task_of t)) t.limit_below, long_burst-le (items t.staircases))

-- a quotient rounded up, as the code has it and as a share is defined
pub rounded_up : (x y : ℕ) → 0 < y → x / y + min 1 (x % y) ≡ (x + (y - 1)) / y
rounded_up x y some =
    let q : ℕ = x / y + min 1 (x % y) in
    let times = div_ceil_times x y some in
    let next : (q + 1) * y ≡ q * y + y = omega arith in
    let below : (x + (y - 1)) / y < q + 1 = (div-lt_iff_lt-mul some).1 (omega (arith, next, times.0)) in
    let above : q ≤ (x + (y - 1)) / y = (le-div_iff_mul-le some).1 (omega (arith, times.1)) in
    omega (arith, below, above)
