-- Lists seen through views.
use Rattle.std.proofs.Common.{◌≡◌, ℕ, ◌+◌, ◌<◌, ◌≤◌, ltb, List, [], ◌∷◌, ◌++◌, map, length, get_or, take, sym, ap, ◌∙◌, arith}
use Rattle.std.proofs.lemmas.List.{length-map, length-take-le, map_more, map_push}
use Rattle.std.proofs.lemmas.Bool.{cond-true, lt-ltb}
use Rattle.bounded.specs.List.{pushed}

-- a loop that fills a bounded list from another list
pub filled_more : {X Y Z : Type 0} (view : X → Y) (from : Z → Y) (n : ℕ) (xs xs' : List X) (zs : List Z) (i : ℕ) (x : X) (d : Z) → i < length zs → length zs ≤ n
    → map view xs ≡ map from (take i zs) → xs' ≡ pushed n xs x → view x ≡ from (get_or zs i d) → map view xs' ≡ map from (take (i + 1) zs)
filled_more view from n xs xs' zs i x d h k inv e made =
    let a = length-map xs view in
    let b = length-map (take i zs) from in
    let c = length-take-le i zs (omega arith) in
    let room : length xs < n = omega (arith, ap length inv) in
    ap (map view) (e ∙ cond-true (ltb (length xs) n) (xs ++ x ∷ []) xs (lt-ltb (length xs) n room))
    ∙ map_push view xs x ∙ ap (λ u. u ++ view x ∷ []) inv ∙ ap (λ y. map from (take i zs) ++ y ∷ []) made ∙ sym (map_more from zs i d h)
