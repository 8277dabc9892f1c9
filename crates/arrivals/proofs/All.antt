-- What holds of each element of a list, and the first element for which something does not hold.
use Rattle.std.proofs.Common.{ℕ, zero, suc, ◌↔◌, List, [], ◌∷◌, map}
use Rattle.std.specs.List.{AllByRecursion}
use Rattle.arrivals.specs.Windows.{FirstWithout}

pub all_mapped : {A B : Type 0} (P : A → Type 0) (Q : B → Type 0) (f : A → B) → ((x : A) → P x → Q (f x)) → (xs : List A) → AllByRecursion P xs → AllByRecursion Q (map f xs)
all_mapped P Q f h [] e = tt
all_mapped P Q f h (x ∷ xs) e = (h x e.0, all_mapped P Q f h xs e.1)

pub all_both : {A : Type 0} (P Q : A → Type 0) (xs : List A) → AllByRecursion P xs → AllByRecursion Q xs → AllByRecursion (λ x. P x × Q x) xs
all_both P Q [] p q = tt
all_both P Q (x ∷ xs) p q = ((p.0, q.0), all_both P Q xs p.1 q.1)

pub first_not_all : {A : Type 0} (P : A → Type 0) (k : ℕ) (xs : List A) → FirstWithout P k xs → AllByRecursion P xs → ⊥
first_not_all P k [] h e = h
first_not_all P zero (x ∷ xs) h e = h e.0
first_not_all P (suc k) (x ∷ xs) h e = first_not_all P k xs h.1 e.1

-- where P of an element and Q of its image say the same
module _ {A B : Type 0} (P : A → Type 0) (Q : B → Type 0) (f : A → B) where
  pub all_like : (xs : List A) → AllByRecursion (λ x. P x ↔ Q (f x)) xs → AllByRecursion P xs ↔ AllByRecursion Q (map f xs)
  all_like [] s = ((λ e. tt), (λ e. tt))
  all_like (x ∷ xs) s =
      let more : AllByRecursion P xs ↔ AllByRecursion Q (map f xs) = all_like xs s.1 in
      ((λ e. (s.0.0 e.0, more.0 e.1)), (λ e. (s.0.1 e.0, more.1 e.1)))

  pub first_like : (k : ℕ) (xs : List A) → AllByRecursion (λ x. P x ↔ Q (f x)) xs → FirstWithout P k xs → FirstWithout Q k (map f xs)
  first_like k [] s h = h
  first_like zero (x ∷ xs) s h = λ q. h (s.0.1 q)
  first_like (suc k) (x ∷ xs) s h = (s.0.0 h.0, first_like k xs s.1 h.1)
