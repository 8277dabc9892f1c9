-- The least over a list, as `min` of an iterator finds it.
use Rattle.std.proofs.Common.{◌≡◌, ℕ, min, List, [], ◌∷◌, map, fold, unwrap_or, Option, sym, refl, ap, ◌∙◌, arith}
use Rattle.std.specs.List.{reduce}
use Rattle.tasks.specs.Least.{least}

-- the least of what a view of each element gives
least_map : {A B : Type 0} (f : B → ℕ) (g : A → B) (xs : List A) → least f (map g xs) ≡ least (λ x. f (g x)) xs
least_map f g [] = refl
least_map f g (x ∷ []) = refl
least_map f g (x ∷ y ∷ ys) = ap (min (f (g x))) (least_map f g (y ∷ ys))

-- a fold that began at a finds the smaller one of a and the least of what it went through
folded_least : {A : Type 0} (f : A → ℕ) (a : ℕ) (x : A) (xs : List A) → fold min a (map f (x ∷ xs)) ≡ min a (least f (x ∷ xs))
folded_least f a x [] = refl
folded_least f a x (y ∷ ys) = folded_least f (min a (f x)) y ys ∙ omega arith

-- so does `min`, which begins with the first element
reduced_least : {A : Type 0} (f : A → ℕ) (xs : List A) → unwrap_or (reduce min (map f xs)) 0 ≡ least f xs
reduced_least f [] = refl
reduced_least f (x ∷ []) = refl
reduced_least f (x ∷ y ∷ ys) = folded_least f (f x) y ys

-- what `min` answers of what f gives of the view of each element
pub least_from_min : {A B : Type 0} (f : B → ℕ) (g : A → B) (xs : List A) (o : Option ℕ) → o ≡ reduce min (map (λ x. f (g x)) xs) → unwrap_or o 0 ≡ least f (map g xs)
least_from_min f g xs o e = ap (λ p. unwrap_or p 0) e ∙ reduced_least (λ x. f (g x)) xs ∙ sym (least_map f g xs)
