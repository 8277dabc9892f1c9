-- The elements of a list, as a loop changes one after another.
use Rattle.std.proofs.Common.{◌≡◌, ℕ, ◌+◌, ◌<◌, ◌≤◌, List, ◌++◌, map, length, get_or, take, drop, set, sym, ap, ◌∙◌, arith}
use Rattle.std.proofs.lemmas.List.Edits.{map_over_more}
use Rattle.std.proofs.lemmas.List.{append_assoc, append-nil, drop_all, get_or-map, map-set, take_all, take_at}

-- The loop is at the element i, and `old` has the views of the elements where it began.
module _ {X Y : Type 0} (view : X → Y) (after : Y → Y) (old : List Y) (xs : List X) (i : ℕ) (inv : map view xs ≡ map after (take i old) ++ drop i old) where
  pub changed_more : (x' d : X) → i < length xs → length old ≡ length xs → view x' ≡ after (view (get_or xs i d))
      → map view (set xs i x') ≡ map after (take (i + 1) old) ++ drop (i + 1) old
  changed_more x' d h m made =
      map-set view xs i x' ∙ ap (set (map view xs) i) made
      ∙ map_over_more after old (map view xs) i (view (get_or xs i d)) (omega arith) inv (sym (get_or-map view xs i d (view (get_or xs i d)) h))

  pub changed_all : length old ≤ i → map view xs ≡ map after old
  changed_all h = inv ∙ ap (λ u. map after u ++ drop i old) (take_all i old h) ∙ ap (λ u. map after old ++ u) (drop_all i old h) ∙ append-nil (map after old)

-- A loop over the elements from the place k on, where k is 0, goes over all of them and puts all of them back. No loop of this crate
-- names the place where it begins; with these the answers of `change_each` and `extend` hold for code that does, so that code which
-- begins at the second place is refused for that alone.
pub whole_part : {X : Type 0} (k n : ℕ) (xs : List X) → k ≡ 0 → length xs ≤ n → take n (drop k xs) ≡ xs
whole_part k n xs h m = ap (λ j. take n (drop j xs)) h ∙ take_all n xs m

pub put_back : {X : Type 0} (k n : ℕ) (xs here p q : List X) → k ≡ 0 → length here ≡ n → take n ((take k xs ++ (here ++ p)) ++ q) ≡ here
put_back k n xs here p q h m = ap (λ j. take n ((take j xs ++ (here ++ p)) ++ q)) h ∙ ap (take n) (append_assoc here p q) ∙ take_at here (p ++ q) n m
