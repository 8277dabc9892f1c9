-- No staircase allows more than its burst and an arrival at each instant.
use Rattle.std.proofs.Common.{◌≡◌, ℕ, zero, suc, ◌+◌, ◌/◌, ◌<◌, ◌≤◌, true, ltb, List, [], ◌∷◌, map, div-lt_iff_lt-mul, mul-le-mul_left, arith}
use Rattle.std.proofs.lemmas.Bool.{and_parts, ltb-true}
use Rattle.tasks.specs.Staircase.{StaircaseModel}
use Rattle.arrivals.specs.Bucket.{arrivals_within, bucket_allows, bucket_of}
use Rattle.arrivals.specs.Counter.{sound}
use Rattle.arrivals.specs.declared.bucket.Bucket.{Bucket}
use Rattle.arrivals.specs.declared.counter.Counter.{Counter}
use Rattle.arrivals.specs.declared.counter.Counter.TheVariants.{Full, Short}

-- an age below the step adds at most one to the quotient
quotient_small : (n g d : ℕ) → 0 < d → g < d → (n + g) / d < n + 2
quotient_small n g d p h = (div-lt_iff_lt-mul p).1 (omega (arith, mul-le-mul_left n p))

allows_at_most : (s : StaircaseModel) (c : Counter) (x : ℕ) → s.burst ≤ 8 → 1 ≤ s.step → sound s c ≡ true → bucket_allows x (record { staircase = s; counter = c }) ≤ 8 + x
allows_at_most s c zero b p e = omega arith
allows_at_most s Full (suc n) b p e = omega (arith, quotient_small n 0 s.step p p)
allows_at_most s (Short t g) (suc n) b p e =
    let parts = and_parts (ltb t s.burst) (ltb g s.step) e in
    omega (arith, ltb-true t s.burst parts.0, quotient_small n g s.step p (ltb-true g s.step parts.1))

one_allows : (b : Bucket) (x : ℕ) → bucket_allows x (bucket_of b) ≤ 8 + x
one_allows b x = allows_at_most (bucket_of b).staircase b.counter x b.staircase.burst_below b.staircase.step_above b.within

pub arrivals_at_most : (bs : List Bucket) (x : ℕ) → arrivals_within x (map bucket_of bs) ≤ 8 + x
arrivals_at_most [] x = omega arith
arrivals_at_most (b ∷ []) x = one_allows b x
arrivals_at_most (b ∷ c ∷ bs) x = omega (arith, one_allows b x)
