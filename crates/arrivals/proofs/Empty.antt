-- A search for the first staircase without a token.
use Rattle.std.proofs.Common.{◌≡◌, ℕ, ◌+◌, Bool, true, false, not, cond, List, [], ◌∷◌, map, Some, Option, option_map, refl}
use Rattle.std.specs.List.{position_from}
use Rattle.arrivals.specs.Bucket.{BucketModel, first_empty, has_token}

-- the place of the first one, counted from i, and its number, which is one more
module _ {X : Type 0} (view : X → BucketModel) where
  either : (b : Bool) (i : ℕ) (o p : Option ℕ) → option_map (λ n. n + 1) o ≡ p → option_map (λ n. n + 1) (cond (not b) (Some i) o) ≡ cond b p (Some (i + 1))
  either true i o p e = e
  either false i o p e = refl

  pub first_empty_is : (i : ℕ) (xs : List X) → option_map (λ n. n + 1) (position_from (λ b. not (has_token (view b))) i xs) ≡ first_empty (i + 1) (map view xs)
  first_empty_is i [] = refl
  first_empty_is i (x ∷ xs) = either (has_token (view x)) i _ _ (first_empty_is (i + 1) xs)
