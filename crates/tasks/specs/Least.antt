-- The least of a number over the elements of a list; 0 for the empty list, which no task has.
use Rattle.std.specs.Prelude.{ℕ, min, List, [], ◌∷◌}

abbrev pub least : {A : Type 0} → (A → ℕ) → List A → ℕ
least f [] = 0
least f (x ∷ []) = f x
least f (x ∷ y ∷ ys) = min (f x) (least f (y ∷ ys))
