-- The greatest number that passes a test, as the search down from the top finds it.
use Rattle.std.proofs.Common.{◌≡◌, ℕ, zero, suc, ◌<◌, ◌≤◌, Bool, true, false, ◌⊎◌, ◌↔◌, Decides, refl, subst, inl, inr, arith}
use Rattle.std.proofs.lemmas.Bool.{both_ways, cases_Bool, cases_lt, cond_both}
use Rattle.fit.specs.Greatest.{Greatest, greatest}

pub greatest_bound : (p : ℕ → Bool) (n : ℕ) → greatest p n ≤ n
unfolding greatest
greatest_bound p zero = omega arith
greatest_bound p (suc n) = cond_both (p (suc n)) (suc n) (greatest p n) (λ x. x ≤ suc n) (λ e. omega arith) (λ e. omega (arith, greatest_bound p n))

-- no number that passes is above it
pub greatest_most : (p : ℕ → Bool) (n w : ℕ) → w ≤ n → p w ≡ true → w ≤ greatest p n
unfolding greatest
greatest_most p zero w h e = h
greatest_most p (suc n) w h e =
    cond_both (p (suc n)) (suc n) (greatest p n) (λ x. w ≤ x) (λ a. h)
    (λ a. elim (cases_lt w (suc n)) [
      | inl k ↦ greatest_most p n w (omega arith) e
      | inr k ↦ let s : w ≡ suc n = omega arith in absurd (both_ways (p w) (rw s a) e)
    ])

-- it passes, unless it is 0
pub greatest_or : (p : ℕ → Bool) (n : ℕ) → (greatest p n ≡ 0) ⊎ (p (greatest p n) ≡ true)
unfolding greatest
greatest_or p zero = inl refl
greatest_or p (suc n) = cond_both (p (suc n)) (suc n) (greatest p n) (λ x. (x ≡ 0) ⊎ (p x ≡ true)) (λ e. inr e) (λ e. greatest_or p n)

-- r is the greatest that passes if exactly the numbers up to r do; of 0 nothing is asked
pub greatest_is : (p : ℕ → Bool) (n r : ℕ) → r ≤ n → ((w : ℕ) → 0 < w → w ≤ n → (p w ≡ true) ↔ (w ≤ r)) → r ≡ greatest p n
greatest_is p n r h same =
    let low : r ≤ greatest p n =
    elim (cases_lt 0 r) [
      | inl k ↦ greatest_most p n r h ((same r k h).1 (omega arith))
      | inr k ↦ omega arith
    ] in
    let high : greatest p n ≤ r =
    elim (greatest_or p n) [
      | inl e ↦ omega arith
      | inr e ↦ elim (cases_lt 0 (greatest p n)) [
        | inl k ↦ (same (greatest p n) k (greatest_bound p n)).0 e
        | inr k ↦ omega arith
      ]
    ] in
    omega arith

-- the search finds the greatest amount that has P, if its test decides P, and with an amount every smaller one has P
pub greatest_of : (p : ℕ → Bool) (P : ℕ → Type 0) → ((w : ℕ) → w ≤ 1024 → Decides (p w) (P w)) → ((v w : ℕ) → v ≤ w → P w → P v) → Greatest P (greatest p 1024)
greatest_of p P decides smaller =
    record {
      top = greatest_bound p 1024;
      which = elim (cases_Bool (p (greatest p 1024))) [
        | inl e ↦ inl (λ w h. (
          (λ has. greatest_most p 1024 w h ((decides w h).1 has)),
          (λ le. smaller w (greatest p 1024) le ((decides (greatest p 1024) (greatest_bound p 1024)).0 e)),
        ))
        | inr e ↦
            let z : greatest p 1024 ≡ 0 = elim (greatest_or p 1024) [ inl f ↦ f | inr f ↦ absurd (both_ways (p (greatest p 1024)) e f) ] in
            let z-fails : p 0 ≡ false = subst (λ (x : ℕ). p x ≡ false) z e in
            inr ((λ w h has. both_ways (p 0) z-fails ((decides 0 (omega arith)).1 (smaller 0 w (omega arith) has))), z)
      ];
    }

-- an amount that is told apart from all others above 0 in the same way is the greatest
pub greatest_unique : (P : ℕ → Type 0) (g r : ℕ) → Greatest P g → r ≤ 1024 → ((w : ℕ) → 0 < w → (w ≤ r) ↔ ((w ≤ 1024) × P w)) → r ≡ g
greatest_unique P g r great top tells = omega (arith, below, above)
  where
    below : r ≤ g
    below =
        elim (cases_lt 0 r) [
          | inl h ↦
              let has : P r = ((tells r h).0 (omega arith)).1 in
              elim great.which [ inl which ↦ (which r top).0 has | inr none ↦ absurd (none.0 r top has) ]
          | inr h ↦ omega arith
        ]

    above : g ≤ r
    above =
        elim (cases_lt 0 g) [
          | inl h ↦
              elim great.which [
                | inl which ↦ (tells g h).1 (great.top, (which g great.top).1 (omega arith))
                | inr none ↦ absurd (omega (arith, none.1))
              ]
          | inr h ↦ omega arith
        ]
