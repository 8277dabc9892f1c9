-- A number of each element, added up.
use Rattle.std.proofs.Common.{◌≡◌, ℕ, ◌+◌, ◌*◌, ◌≤◌, List, [], ◌∷◌, length, sum_by, sym, arith}
use Rattle.std.proofs.lemmas.List.Sums.{sum_by-cons}

-- total is the sum over a list of `part` of each element
module _ {X : Type 0} (part : X → ℕ) (total : List X → ℕ) (nothing : total [] ≡ 0) (step : (x : X) (xs : List X) → total (x ∷ xs) ≡ part x + total xs) where
  pub sum_by_total : (xs : List X) → sum_by part xs ≡ total xs
  sum_by_total [] = sym nothing
  sum_by_total (x ∷ xs) = omega (arith, sum_by-cons part x xs, step x xs, sum_by_total xs)

  pub total-le : (top : ℕ) → ((x : X) → part x ≤ top) → (xs : List X) → total xs ≤ length xs * top
  total-le top each [] = omega (arith, nothing)
  total-le top each (x ∷ xs) = omega (arith, step x xs, each x, total-le top each xs)
