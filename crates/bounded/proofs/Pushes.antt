-- The elements of a list, as a loop pushes one after another.
use Rattle.std.proofs.Common.{◌≡◌, ℕ, ◌+◌, ◌<◌, ◌≤◌, min, List, [], ◌∷◌, ◌++◌, length, get_or, take, sym, ap, ◌∙◌, arith}
use Rattle.std.proofs.lemmas.Bool.{cond_both, ltb-false, ltb-true}
use Rattle.std.proofs.lemmas.List.{append_assoc, length-take, length_push, take_all, take-append-le, take_more}
use Rattle.std.specs.Prelude.{nat_lt}
use Rattle.bounded.specs.List.{pushed}

-- A push onto the first n of some elements leaves the first n of these with the new one behind them.
pushed_take : {X : Type 0} (n : ℕ) (zs : List X) (x : X) → pushed n (take n zs) x ≡ take n (zs ++ x ∷ [])
pushed_take n zs x =
    let long : length (take n zs) ≡ min n (length zs) = length-take n zs in
    let longer : length (zs ++ x ∷ []) ≡ length zs + 1 = length_push zs x in
    cond_both (nat_lt (length (take n zs)) n) (take n zs ++ x ∷ []) (take n zs) (λ us. us ≡ take n (zs ++ x ∷ []))
    (λ h. let short : length (take n zs) < n = ltb-true (length (take n zs)) n h in
    ap (λ us. us ++ x ∷ []) (take_all n zs (omega (arith, long))) ∙ sym (take_all n (zs ++ x ∷ []) (omega (arith, long, longer))))
    (λ h. let full : n ≤ length (take n zs) = ltb-false (length (take n zs)) n h in
    sym (take-append-le n zs (x ∷ []) (omega (arith, long))))

-- The loop pushes `all`, and is at their element i: `xs` stood where it began, and `ys` stand now.
pub pushed_more : {X : Type 0} (n i : ℕ) (xs ys all : List X) (x : X) → ys ≡ take n (xs ++ take i all) → i < length all → x ≡ get_or all i x
    → pushed n ys x ≡ take n (xs ++ take (i + 1) all)
pushed_more n i xs ys all x inv h e =
    ap (λ us. pushed n us x) inv ∙ pushed_take n (xs ++ take i all) x ∙ ap (take n) (append_assoc xs (take i all) (x ∷ []))
    ∙ ap (λ z. take n (xs ++ (take i all ++ z ∷ []))) e ∙ ap (λ us. take n (xs ++ us)) (sym (take_more all i x h))
