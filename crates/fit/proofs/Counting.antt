-- What the counters of a lane allow: one instant less after a tick, one arrival less after an arrival, and never more than full ones.
use Rattle.std.proofs.Common.{◌≡◌, ℕ, zero, suc, ◌+◌, ◌-◌, ◌≤◌, true, ltb, List, [], ◌∷◌, map, length, sym, refl, ap, subst, inl, inr, arith}
use native.Mathlib.Nat.{add-div_right}
use Rattle.std.proofs.ByRecursion.{All-weaker}
use Rattle.std.proofs.lemmas.List.{length-map}
use Rattle.std.proofs.lemmas.Bool.{and_parts, cases_lt, ltb-true}
use Rattle.std.specs.List.{AllByRecursion}
use Rattle.tasks.specs.Staircase.{StaircaseModel}
use Rattle.arrivals.proofs.Continuations.{arrival_spends, tick_allows}
use Rattle.arrivals.proofs.Quotients.{quotient_rises}
use Rattle.arrivals.proofs.Tokens.{HasToken}
use Rattle.arrivals.specs.Bucket.{BucketModel, arrivals_within, bucket_after, bucket_allows, full, has_token}
use Rattle.arrivals.specs.Counter.{age, sound, tokens}
use Rattle.arrivals.specs.declared.counter.Counter.{Counter}
use Rattle.arrivals.specs.declared.counter.Counter.TheVariants.{Full, Short}
use Rattle.arrivals.specs.declared.counter.Event.TheVariants.{Arrival, Tick}
use Rattle.lanes.specs.Lane.{LaneModel}
use Rattle.fit.specs.WellFormed.{LaneFormed, StaircaseFormed}

-- what holds of the image of each element
all_before_map : {A B : Type 0} (P : B → Type 0) (f : A → B) (xs : List A) → AllByRecursion P (map f xs) → AllByRecursion (λ x. P (f x)) xs
all_before_map P f [] h = tt
all_before_map P f (x ∷ xs) h = (h.0, all_before_map P f xs h.1)

-- every staircase of a lane's buckets has a step
pub steps_above : (l : LaneModel) → LaneFormed l → AllByRecursion (λ b. 1 ≤ b.staircase.step) l.buckets
steps_above l ok =
    all_before_map (λ s. 1 ≤ s.step) (λ b. b.staircase) l.buckets
    (All-weaker StaircaseFormed (λ s. 1 ≤ s.step) (λ s h. h.step_above) (map (λ b. b.staircase) l.buckets)
    (subst (AllByRecursion StaircaseFormed) (sym ok.own) ok.task.staircases))

-- a lane has a bucket
some_bucket : (l : LaneModel) → LaneFormed l → 1 ≤ length l.buckets
some_bucket l ok = omega (arith, ok.task.some_staircase, ap length ok.own, length-map l.buckets (λ b. b.staircase))

-- at no instants nothing arrives
pub arrivals_at_none : (bs : List BucketModel) → arrivals_within 0 bs ≡ 0
arrivals_at_none [] = refl
arrivals_at_none (b ∷ []) = refl
arrivals_at_none (b ∷ c ∷ bs) = omega (arith, arrivals_at_none (c ∷ bs))

-- a longer time allows no fewer arrivals
bucket_rises : (x y : ℕ) (b : BucketModel) → x ≤ y → 1 ≤ b.staircase.step → bucket_allows x b ≤ bucket_allows y b
bucket_rises zero y b h p = omega arith
bucket_rises (suc x) zero b h p = absurd (omega arith)
bucket_rises (suc x) (suc y) b h p = omega (arith, quotient_rises (x + age b.counter) (y + age b.counter) b.staircase.step p (omega arith))

pub arrivals_rise : (x y : ℕ) (bs : List BucketModel) → x ≤ y → AllByRecursion (λ b. 1 ≤ b.staircase.step) bs → arrivals_within x bs ≤ arrivals_within y bs
arrivals_rise x y [] h p = omega arith
arrivals_rise x y (b ∷ []) h p = bucket_rises x y b h p.0
arrivals_rise x y (b ∷ c ∷ bs) h p = omega (arith, bucket_rises x y b h p.0, arrivals_rise x y (c ∷ bs) h p.1)

-- one tick later, the arrivals that are due within Δ of the new instant were due within Δ + 1 of the old one
pub tick_allows_by_deadline : (deadline Δ : ℕ) (bs : List BucketModel) → AllByRecursion (λ b. 1 ≤ b.staircase.step) bs
    → arrivals_within (suc Δ - deadline) (map (bucket_after Tick) bs) ≤ arrivals_within (suc (suc Δ) - deadline) bs
tick_allows_by_deadline deadline Δ bs p =
    elim (cases_lt (suc Δ) deadline) [
      | inl h ↦
          let none : suc Δ - deadline ≡ 0 = omega arith in
          rw none (omega (arith, arrivals_at_none (map (bucket_after Tick) bs)))
      | inr h ↦
          let more : suc (suc Δ) - deadline ≡ suc (suc Δ - deadline) = omega arith in
          rw more (tick_allows (suc Δ - deadline) bs p)
    ]

-- an admitted arrival is one of those that were possible from now on
pub arrival_takes_one : (n : ℕ) (l : LaneModel) → LaneFormed l → AllByRecursion (λ b. has_token b ≡ true) l.buckets
    → arrivals_within (suc n) (map (bucket_after Arrival) l.buckets) + 1 ≡ arrivals_within (suc n) l.buckets
arrival_takes_one n l ok h =
    arrival_spends n l.buckets (some_bucket l ok)
    (All-weaker (λ b. has_token b ≡ true) HasToken (λ b e. ltb-true 0 (tokens b.staircase b.counter) e) l.buckets h)

-- A full counter allows the most: a short one lacks a token at least, and its age is worth less than one.
counter_below_full : (s : StaircaseModel) (c : Counter) (x : ℕ) → 1 ≤ s.step → sound s c ≡ true
    → bucket_allows x (record { staircase = s; counter = c }) ≤ bucket_allows x (full s)
counter_below_full s c zero p h = omega arith
counter_below_full s Full (suc n) p h = omega arith
counter_below_full s (Short t g) (suc n) p h =
    let parts = and_parts (ltb t s.burst) (ltb g s.step) h in
    omega (
      arith,
      ltb-true t s.burst parts.0,
      quotient_rises (n + g) (n + 0 + s.step) s.step p (omega (arith, ltb-true g s.step parts.1)),
      add-div_right (n + 0) p,
    )

below_full : (x : ℕ) (bs : List BucketModel) → AllByRecursion (λ b. 1 ≤ b.staircase.step) bs → AllByRecursion (λ b. sound b.staircase b.counter ≡ true) bs
    → arrivals_within x bs ≤ arrivals_within x (map full (map (λ b. b.staircase) bs))
below_full x [] p h = omega arith
below_full x (b ∷ []) p h = counter_below_full b.staircase b.counter x p.0 h.0
below_full x (b ∷ c ∷ bs) p h = omega (arith, counter_below_full b.staircase b.counter x p.0 h.0, below_full x (c ∷ bs) p.1 h.1)

-- the counters of a lane allow at most what full ones of its task do
pub at_most_fresh : (x : ℕ) (l : LaneModel) → LaneFormed l → arrivals_within x l.buckets ≤ arrivals_within x (map full l.task.staircases)
at_most_fresh x l ok =
    subst (λ (ss : List StaircaseModel). arrivals_within x l.buckets ≤ arrivals_within x (map full ss)) ok.own
    (below_full x l.buckets (steps_above l ok) ok.counters)
