-- Whatever events follow, a monitor takes at most as many arrivals as its buckets allow.
use Rattle.std.proofs.Common.{◌≡◌, ℕ, zero, suc, ◌+◌, ◌/◌, ◌<◌, ◌≤◌, cond, eqb, List, [], ◌∷◌, map, length, refl, ap, ◌∙◌, arith}
use native.Mathlib.Nat.{add-div_right}
use Rattle.std.proofs.lemmas.List.{length-map}
use Rattle.std.proofs.lemmas.Bool.{cond_both, eqb-true}
use Rattle.std.specs.List.{AllByRecursion}
use Rattle.tasks.specs.Reply.{Reply, refused, served}
use Rattle.tasks.specs.Staircase.{StaircaseModel}
use Rattle.arrivals.proofs.All.{all_mapped}
use Rattle.std.proofs.ByRecursion.{All-weaker}
use Rattle.arrivals.proofs.Least.{least_at_most, least_one_less}
use Rattle.arrivals.proofs.Quotients.{quotient_rises}
use Rattle.arrivals.proofs.Tokens.{HasToken, taken_has_tokens}
use Rattle.arrivals.specs.Bucket.{BucketModel, arrivals_within, bucket_after, bucket_allows}
use Rattle.arrivals.specs.Counter.{counter_after}
use Rattle.arrivals.specs.Monitor.{MonitorModel, after, answer_to, left_by}
use Rattle.arrivals.specs.Runs.{Observation, arrivals_taken, count_taken, count_ticked, observations, ticks_served}
use Rattle.arrivals.specs.Continuations.{BoundsArrivals}
use Rattle.arrivals.specs.declared.counter.Counter.{Counter}
use Rattle.arrivals.specs.declared.counter.Counter.TheVariants.{Full, Short}
use Rattle.arrivals.specs.declared.counter.Event.{Event}
use Rattle.arrivals.specs.declared.counter.Event.TheVariants.{Arrival, Tick}

-- what one staircase with this counter allows
abbrev allows : StaircaseModel → ℕ → Counter → ℕ
allows s x c = bucket_allows x (record { staircase = s; counter = c })

counter_ticked : (s : StaircaseModel) (c : Counter) (x : ℕ) → 1 ≤ s.step → allows s x (counter_after s Tick c) ≤ allows s (suc x) c
counter_ticked s c zero p = omega arith
counter_ticked s Full (suc n) p = omega (arith, quotient_rises (n + 0) (suc n + 0) s.step p (omega arith))
counter_ticked s (Short t g) (suc n) p =
    cond_both (eqb (g + 1) s.step) (cond (eqb (t + 1) s.burst) Full (Short (t + 1) 0)) (Short t (g + 1)) (λ c. allows s (suc n) c ≤ allows s (suc (suc n)) (Short t g))
    (λ e. let turn : g + 1 ≡ s.step = eqb-true (g + 1) s.step e in
    let gain : (suc n + g) / s.step ≡ (n + 0) / s.step + 1 = ap (λ z. z / s.step) (omega arith) ∙ add-div_right (n + 0) p in
    cond_both (eqb (t + 1) s.burst) Full (Short (t + 1) 0) (λ c. allows s (suc n) c ≤ allows s (suc (suc n)) (Short t g))
    (λ f. omega (arith, eqb-true (t + 1) s.burst f))
    (λ f. omega arith))
    (λ e. omega (arith, quotient_rises (n + (g + 1)) (suc n + g) s.step p (omega arith)))

counter_spent : (s : StaircaseModel) (c : Counter) (n : ℕ) → HasToken (record { staircase = s; counter = c }) → allows s (suc n) (counter_after s Arrival c) + 1 ≡ allows s (suc n) c
counter_spent s Full n h = omega arith
counter_spent s (Short t g) n h = omega arith

-- a tick moves on by one instant, and no more arrivals are allowed at the instants that were to come
pub tick_allows : (x : ℕ) (bs : List BucketModel) → AllByRecursion (λ b. 1 ≤ b.staircase.step) bs → arrivals_within x (map (bucket_after Tick) bs) ≤ arrivals_within (suc x) bs
tick_allows x bs p =
    least_at_most (bucket_allows (suc x)) (bucket_allows x) (bucket_after Tick) bs
    (All-weaker (λ b. 1 ≤ b.staircase.step) (λ b. bucket_allows x (bucket_after Tick b) ≤ bucket_allows (suc x) b) (λ b. counter_ticked b.staircase b.counter x) bs p)

-- an arrival that is taken is one of those that were allowed
pub arrival_spends : (n : ℕ) (bs : List BucketModel) → 1 ≤ length bs → AllByRecursion HasToken bs
    → arrivals_within (suc n) (map (bucket_after Arrival) bs) + 1 ≡ arrivals_within (suc n) bs
arrival_spends n [] k h = absurd (omega arith)
arrival_spends n (b ∷ bs) k h =
    least_one_less (bucket_allows (suc n)) (bucket_allows (suc n)) (bucket_after Arrival) b bs
    (All-weaker HasToken (λ b. bucket_allows (suc n) (bucket_after Arrival b) + 1 ≡ bucket_allows (suc n) b) (λ b. counter_spent b.staircase b.counter n) (b ∷ bs) h)

-- an event leaves as many buckets as there were, with the same staircases
length_left : (e : Event) (r : Reply ℕ) (m : MonitorModel) → length (left_by e r m).buckets ≡ length m.buckets
length_left Arrival (served n) m = length-map m.buckets (bucket_after Arrival)
length_left Tick (served n) m = length-map m.buckets (bucket_after Tick)
length_left Arrival (refused r) m = refl
length_left Tick (refused r) m = refl

steps_left : (e : Event) (r : Reply ℕ) (m : MonitorModel) → AllByRecursion (λ b. 1 ≤ b.staircase.step) m.buckets → AllByRecursion (λ b. 1 ≤ b.staircase.step) (left_by e r m).buckets
steps_left Arrival (served n) m p = all_mapped (λ b. 1 ≤ b.staircase.step) (λ b. 1 ≤ b.staircase.step) (bucket_after Arrival) (λ b h. h) m.buckets p
steps_left Tick (served n) m p = all_mapped (λ b. 1 ≤ b.staircase.step) (λ b. 1 ≤ b.staircase.step) (bucket_after Tick) (λ b h. h) m.buckets p
steps_left Arrival (refused r) m p = p
steps_left Tick (refused r) m p = p

-- one event with its answer, and the observations after it
bounds_step : (e : Event) (r : Reply ℕ) (m : MonitorModel) (later : List Observation) → r ≡ answer_to e m
    → 1 ≤ length m.buckets → AllByRecursion (λ b. 1 ≤ b.staircase.step) m.buckets
    → ((y : ℕ) → ticks_served later < y → arrivals_taken later ≤ arrivals_within y (left_by e r m).buckets)
    → (x : ℕ) → count_ticked e r + ticks_served later < x → count_taken e r + arrivals_taken later ≤ arrivals_within x m.buckets
bounds_step e r m later a k p rest zero h = absurd (omega arith)
bounds_step Arrival (served n) m later a k p rest (suc x) h =
    omega (arith, rest (suc x) (omega arith), arrival_spends x m.buckets k (taken_has_tokens m.buckets (m.clock + m.task.deadline) n a))
bounds_step Tick (served n) m later a k p rest (suc x) h = omega (arith, rest x (omega arith), tick_allows x m.buckets p)
bounds_step Arrival (refused r) m later a k p rest (suc x) h = omega (arith, rest (suc x) (omega arith))
bounds_step Tick (refused r) m later a k p rest (suc x) h = omega (arith, rest (suc x) (omega arith))

-- There must be a bucket: without one every arrival would be taken.
pub bounds_arrivals : (m : MonitorModel) → 1 ≤ length m.buckets → AllByRecursion (λ b. 1 ≤ b.staircase.step) m.buckets
    → (x : ℕ) → BoundsArrivals m x (arrivals_within x m.buckets)
bounds_arrivals m k p x [] h = omega arith
bounds_arrivals m k p x (e ∷ es) h =
    let r = answer_to e m in
    bounds_step e r m (observations (after e m) es) refl k p
    (λ y. bounds_arrivals (after e m) (rw (length_left e r m) k) (steps_left e r m p) y es) x h
