-- Buckets that have followed a list of arrivals: what ties their counters to the instants of these arrivals, and that a tick
-- and an arrival that is taken keep the tie.
use Rattle.std.proofs.Common.{◌≡◌, ℕ, ◌+◌, ◌≤◌, ◌↔◌, List, [], ◌∷◌, ◌++◌, map, refl, ap, arith}
use Rattle.std.specs.List.{AllByRecursion}
use Rattle.tasks.specs.Staircase.{StaircaseModel}
use Rattle.arrivals.proofs.OneCounter.{Counts, counts_arrival, counts_full, counts_tick, token_exactly}
use Rattle.arrivals.proofs.All.{all_both, all_like, all_mapped, first_like}
use Rattle.std.proofs.ByRecursion.{All-weaker}
use Rattle.arrivals.proofs.Instants.{NoneLater, keeps_room, none_later_arrival, none_later_tick, none_since, room_keeps, since, since_now}
use Rattle.arrivals.proofs.Tokens.{HasToken}
use Rattle.arrivals.specs.Bucket.{BucketModel, bucket_after, full}
use Rattle.arrivals.specs.Windows.{FirstWithout, Keeps}
use Rattle.arrivals.specs.declared.counter.Event.{Event}
use Rattle.arrivals.specs.declared.counter.Event.TheVariants.{Arrival, Tick}

abbrev pub staircases_of : List BucketModel → List StaircaseModel
staircases_of bs = map (λ b. b.staircase) bs

pub staircases_after : (e : Event) (bs : List BucketModel) → staircases_of (map (bucket_after e) bs) ≡ staircases_of bs
staircases_after e [] = refl
staircases_after e (b ∷ bs) = ap (λ ss. b.staircase ∷ ss) (staircases_after e bs)

pub staircases_full : (ss : List StaircaseModel) → staircases_of (map full ss) ≡ ss
staircases_full [] = refl
staircases_full (s ∷ ss) = ap (λ ts. s ∷ ts) (staircases_full ss)

-- a staircase that allows an arrival, and another one later
abbrev pub Real : StaircaseModel → Type 0
Real s = (1 ≤ s.burst) × (1 ≤ s.step)

-- at the instant `now`, after arrivals at the instants xs
pub record Tracked (now : ℕ) (xs : List ℕ) (b : BucketModel) : Type 0 where
  pub real : Real b.staircase
  pub counts : Counts b.staircase now (λ u. since u xs) b.counter
  pub keeps : Keeps xs b.staircase

pub record AllTracked (now : ℕ) (xs : List ℕ) (bs : List BucketModel) : Type 0 where
  pub none_later : NoneLater now xs
  pub each : AllByRecursion (Tracked now xs) bs

token_keeps : (now : ℕ) (xs : List ℕ) (b : BucketModel) → NoneLater now xs → Tracked now xs b → HasToken b ↔ Keeps (xs ++ (now ∷ [])) b.staircase
token_keeps now xs b e t =
    let s : StaircaseModel = b.staircase in
    let law = token_exactly s now (λ u. since u xs) b.counter t.real t.counts in
    ((λ h. room_keeps s now xs t.real.1 e t.keeps (law.0 h)), (λ k. law.1 (keeps_room s now xs e k)))

each_token_keeps : (now : ℕ) (xs : List ℕ) (bs : List BucketModel) → AllTracked now xs bs → AllByRecursion (λ b. HasToken b ↔ Keeps (xs ++ (now ∷ [])) b.staircase) bs
each_token_keeps now xs bs t =
    All-weaker (Tracked now xs) (λ b. HasToken b ↔ Keeps (xs ++ (now ∷ [])) b.staircase) (λ b. token_keeps now xs b t.none_later) bs t.each

-- each bucket has a token exactly when the arrivals, with one more now, keep every staircase over every window
pub tokens_windows : (now : ℕ) (xs : List ℕ) (bs : List BucketModel) → AllTracked now xs bs → AllByRecursion HasToken bs ↔ AllByRecursion (Keeps (xs ++ (now ∷ []))) (staircases_of bs)
tokens_windows now xs bs t = all_like HasToken (Keeps (xs ++ (now ∷ []))) (λ b. b.staircase) bs (each_token_keeps now xs bs t)

-- the first bucket without a token is that of the first staircase that would not be kept
pub first_window : (now : ℕ) (xs : List ℕ) (bs : List BucketModel) → AllTracked now xs bs
    → (k : ℕ) → FirstWithout HasToken k bs → FirstWithout (Keeps (xs ++ (now ∷ []))) k (staircases_of bs)
first_window now xs bs t k = first_like HasToken (Keeps (xs ++ (now ∷ []))) (λ b. b.staircase) k bs (each_token_keeps now xs bs t)

pub tracked_fresh : (now : ℕ) (ss : List StaircaseModel) → AllByRecursion Real ss → AllTracked now [] (map full ss)
tracked_fresh now ss p =
    record {
      none_later = tt;
      each = all_mapped Real (Tracked now []) full
          (λ s r. record { real = r; counts = counts_full s now (λ u. since u []) (λ u. refl); keeps = λ start length. omega arith }) ss p;
    }

pub tracked_tick : (now : ℕ) (xs : List ℕ) (bs : List BucketModel) → AllTracked now xs bs → AllTracked (now + 1) xs (map (bucket_after Tick) bs)
tracked_tick now xs bs t =
    record {
      none_later = none_later_tick now xs t.none_later;
      each = all_mapped (Tracked now xs) (Tracked (now + 1) xs) (bucket_after Tick)
          (λ b k. record {
            real = k.real;
            counts = counts_tick b.staircase now (λ u. since u xs) b.counter k.real.1 (none_since now xs t.none_later) k.counts;
            keeps = k.keeps;
          }) bs t.each;
    }

pub tracked_arrival : (now : ℕ) (xs : List ℕ) (bs : List BucketModel) → AllTracked now xs bs → AllByRecursion HasToken bs
    → AllTracked now (xs ++ (now ∷ [])) (map (bucket_after Arrival) bs)
tracked_arrival now xs bs t h =
    record {
      none_later = none_later_arrival now xs t.none_later;
      each = all_mapped (λ b. Tracked now xs b × HasToken b) (Tracked now (xs ++ (now ∷ []))) (bucket_after Arrival)
          (λ b k. record {
            real = k.0.real;
            counts = counts_arrival b.staircase now (λ u. since u xs) (λ u. since u (xs ++ (now ∷ []))) b.counter k.0.real k.1
                (λ u. since_now now u xs) k.0.counts;
            keeps = (token_keeps now xs b t.none_later k.0).0 k.1;
          }) bs (all_both (Tracked now xs) HasToken bs t.each h);
    }
