-- The least over a list each of whose elements was changed.
use Rattle.std.proofs.Common.{◌≡◌, ℕ, ◌+◌, ◌≤◌, List, [], ◌∷◌, map, arith}
use Rattle.std.specs.List.{AllByRecursion}
use Rattle.tasks.specs.Least.{least}

module _ {A B : Type 0} (f : A → ℕ) (g : B → ℕ) (change : A → B) where
  pub least_at_most : (xs : List A) → AllByRecursion (λ x. g (change x) ≤ f x) xs → least g (map change xs) ≤ least f xs
  least_at_most [] h = omega arith
  least_at_most (x ∷ []) h = h.0
  least_at_most (x ∷ y ∷ ys) h = omega (arith, h.0, least_at_most (y ∷ ys) h.1)

  -- for an element at least
  pub least_one_less : (x : A) (xs : List A) → AllByRecursion (λ x. g (change x) + 1 ≡ f x) (x ∷ xs) → least g (map change (x ∷ xs)) + 1 ≡ least f (x ∷ xs)
  least_one_less x [] h = h.0
  least_one_less x (y ∷ ys) h = omega (arith, h.0, least_one_less y ys h.1)
