-- Buckets belong to the staircases that they were made for, whatever events come.
use Rattle.std.proofs.Common.{◌≡◌, ℕ, suc, true, ◌&&◌, eqb, List, [], ◌∷◌, map, length, refl, ap, ◌∙◌, arith}
use Rattle.std.proofs.lemmas.Bool.{and_from, and_parts, eq-eqb}
use Rattle.tasks.specs.Staircase.{StaircaseModel}
use Rattle.arrivals.specs.Bucket.{BucketModel, bucket_after, full, matched}
use Rattle.arrivals.specs.declared.counter.Event.{Event}

pub matched_full : (ss : List StaircaseModel) → matched ss (map full ss) ≡ true
matched_full [] = refl
matched_full (s ∷ ss) =
    and_from (eqb s.burst s.burst && eqb s.step s.step) (matched ss (map full ss))
    (and_from (eqb s.burst s.burst) (eqb s.step s.step) (eq-eqb s.burst s.burst refl) (eq-eqb s.step s.step refl)) (matched_full ss)

matched_after : (e : Event) (ss : List StaircaseModel) (bs : List BucketModel) → matched ss (map (bucket_after e) bs) ≡ matched ss bs
matched_after e [] [] = refl
matched_after e [] (b ∷ bs) = refl
matched_after e (s ∷ ss) [] = refl
matched_after e (s ∷ ss) (b ∷ bs) = ap (λ t. (eqb s.burst b.staircase.burst && eqb s.step b.staircase.step) && t) (matched_after e ss bs)

pub matched_length : (ss : List StaircaseModel) (bs : List BucketModel) → matched ss bs ≡ true → length ss ≡ length bs
matched_length [] [] e = refl
matched_length [] (b ∷ bs) e = let z : ◌≡◌ {A = ℕ} 0 1 = cc in absurd (omega arith)
matched_length (s ∷ ss) [] e = let z : ◌≡◌ {A = ℕ} 0 1 = cc in absurd (omega arith)
matched_length (s ∷ ss) (b ∷ bs) e = ap suc (matched_length ss bs (and_parts _ _ e).1)

-- an event leaves what was matched so
pub still_matched : (e : Event) (ss : List StaircaseModel) (bs cs : List BucketModel) → cs ≡ map (bucket_after e) bs → matched ss bs ≡ true → matched ss cs ≡ true
still_matched e ss bs cs h m = ap (matched ss) h ∙ matched_after e ss bs ∙ m
