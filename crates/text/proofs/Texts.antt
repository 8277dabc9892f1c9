-- Texts that are added to the text of a table, one behind the other.
use Rattle.std.proofs.Common.{◌≡◌, ℕ, zero, suc, ◌+◌, ◌<◌, ◌≤◌, List, [], ◌∷◌, ◌++◌, map, length, get_or, take, sym, refl, ap, ◌∙◌, append_assoc, arith}
use Rattle.std.proofs.lemmas.List.{append-nil, flat_map_more, map_push, take_all, take_more, length-take}
use Rattle.std.specs.List.{flat_map}
use Rattle.text.specs.Views.{added, text_of}
use Rattle.text.specs.declared.table_text.TableText.{TableText}

take_front : (n : ℕ) (xs ys : List ℕ) → take n (take n xs ++ ys) ≡ take n (xs ++ ys)
take_front zero xs ys = refl
take_front (suc n) [] ys = refl
take_front (suc n) (x ∷ xs) ys = ap (λ l. x ∷ l) (take_front n xs ys)

pub added_twice : (text a b : List ℕ) → added (added text a) b ≡ added text (a ++ b)
unfolding added
added_twice text a b = take_front 328 (text ++ a) b ∙ ap (take 328) (append_assoc text a b)

pub added_none : (t : TableText) → added (text_of t) [] ≡ text_of t
unfolding added
added_none t = let w = t.bytes.within in let n = length-take t.bytes.len t.bytes.slots in rw append-nil (take_all 328 (text_of t) (omega arith))

-- a text that has room
pub added_fits : (text : List ℕ) → length text ≤ 328 → added [] text ≡ text
unfolding added
added_fits text h = take_all 328 text h

-- a part more that a loop adds
pub added_more : {X Y : Type 0} (f : Y → List ℕ) (g : X → Y) (xs : List X) (i : ℕ) (x : X) (text : List ℕ) {there next : List ℕ} → i < length xs → x ≡ get_or xs i x
    → there ≡ added text (flat_map f (map g (take i xs))) → next ≡ added there (f (g x)) → next ≡ added text (flat_map f (map g (take (i + 1) xs)))
added_more f g xs i x text h e a b =
    let n : take (i + 1) xs ≡ take i xs ++ x ∷ [] = take_more xs i x h ∙ ap (λ y. take i xs ++ y ∷ []) (sym e) in
    b ∙ ap (λ t. added t (f (g x))) a ∙ added_twice text (flat_map f (map g (take i xs))) (f (g x))
    ∙ ap (added text) (flat_map_more f [] (map g (take i xs)) (g x) ∙ ap (flat_map f) (sym (ap (map g) n ∙ map_push g (take i xs) x)))
