-- Quotients of natural numbers.
use Rattle.std.proofs.Common.{ℕ, ◌+◌, ◌*◌, ◌/◌, ◌<◌, ◌≤◌, le_trans, le-div_iff_mul-le, div-mul-le_self}
use native.Mathlib.Nat.{mul-add-div_right}

pub quotient_rises : (a b d : ℕ) → 0 < d → a ≤ b → a / d ≤ b / d
quotient_rises a b d p h = (le-div_iff_mul-le p).1 (le_trans (div-mul-le_self a d) h)

pub below_quotient : (a n m d : ℕ) → 0 < d → a * d ≤ n * d + m → a ≤ n + m / d
below_quotient a n m d p h = rw (mul-add-div_right p n m) at ((le-div_iff_mul-le p).1 h)
