-- A staircase with its counter, and what the counters of one task say together.
use Rattle.std.specs.Prelude.{ℕ, zero, suc, ◌+◌, ◌/◌, Bool, true, false, cond, ◌&&◌, List, [], ◌∷◌, map, Some, None, Option, ◌==◌, nat_lt}
use Rattle.bounded.specs.List.{items}
use Rattle.tasks.specs.Least.{least}
use Rattle.tasks.specs.Staircase.{StaircaseModel, longest_of, no_staircase, staircase_of}
use Rattle.arrivals.specs.Counter.{age, counter_after, tokens}
use Rattle.arrivals.specs.declared.bucket.Bucket.{Bucket}
use Rattle.arrivals.specs.declared.counter.Counter.{Counter}
use Rattle.arrivals.specs.declared.counter.Counter.TheVariants.{Full}
use Rattle.arrivals.specs.declared.counter.Event.{Event}
use Rattle.arrivals.specs.declared.counters.Counters.{Counters}

-- a token bucket by its two parts
pub record BucketModel : Type 0 where
  pub staircase : StaircaseModel
  pub counter : Counter

-- what a bucket holds
abbrev pub bucket_of : Bucket → BucketModel
bucket_of b = record { staircase = staircase_of b.staircase; counter = b.counter }

-- the buckets of one task, in the order of its staircases
abbrev pub counters_of : Counters → List BucketModel
counters_of c = map bucket_of (items c.buckets)

-- these buckets belong to these staircases, one to one
abbrev pub matched : List StaircaseModel → List BucketModel → Bool
matched [] [] = true
matched [] (b ∷ bs) = false
matched (s ∷ ss) [] = false
matched (s ∷ ss) (b ∷ bs) = (s.burst == b.staircase.burst && s.step == b.staircase.step) && matched ss bs

-- the bucket of a staircase that has had no arrival
abbrev pub full : StaircaseModel → BucketModel
full s = record { staircase = s; counter = Full }

-- the bucket after an event: the staircase stays
abbrev pub bucket_after : Event → BucketModel → BucketModel
bucket_after e b = record { staircase = b.staircase; counter = counter_after b.staircase e b.counter }

-- whether the staircase allows an arrival now
abbrev pub has_token : BucketModel → Bool
has_token b = nat_lt 0 (tokens b.staircase b.counter)

-- the number of the first staircase without a token, where the first of these has the number k
abbrev pub first_empty : ℕ → List BucketModel → Option ℕ
first_empty k [] = None
first_empty k (b ∷ bs) = cond (has_token b) (first_empty (k + 1) bs) (Some k)

-- the arrivals that one staircase still allows at the x instants that begin now
abbrev pub bucket_allows : ℕ → BucketModel → ℕ
bucket_allows zero b = 0
bucket_allows (suc n) b = tokens b.staircase b.counter + (n + age b.counter) / b.staircase.step

-- the arrivals still possible at the x instants that begin now: the least over the staircases
abbrev pub arrivals_within : ℕ → List BucketModel → ℕ
arrivals_within x bs = least (bucket_allows x) bs

-- the bucket of the long staircase
abbrev pub long_bucket : List BucketModel → BucketModel
long_bucket bs = longest_of (full no_staircase) (λ b. b.staircase) bs
