-- The answer to an arrival says which staircases have a token.
use Rattle.std.proofs.Common.{◌≡◌, ℕ, suc, ◌+◌, ◌≤◌, ◌⊎◌, List, [], ◌∷◌, Some, None, refl, ap, ◌∙◌, inl, inr, arith}
use Rattle.std.proofs.lemmas.Bool.{cond_both, ltb-false, ltb-true}
use Rattle.std.specs.List.{AllByRecursion}
use Rattle.tasks.specs.Reply.{refused, served}
use Rattle.arrivals.specs.Bucket.{BucketModel, first_empty, has_token}
use Rattle.arrivals.specs.Counter.{tokens}
use Rattle.arrivals.specs.Monitor.{taken_unless}
use Rattle.arrivals.specs.Windows.{FirstWithout}

abbrev pub HasToken : BucketModel → Type 0
HasToken b = 1 ≤ tokens b.staircase b.counter

-- each bucket has a token, or the first without one is found; the first of these has the number k
pub first_empty_tells : (k : ℕ) (bs : List BucketModel)
    → ((first_empty k bs ≡ None) × AllByRecursion HasToken bs) ⊎ ((j : ℕ) × (first_empty k bs ≡ Some (k + j)) × FirstWithout HasToken j bs)
first_empty_tells k [] = inl (refl, tt)
first_empty_tells k (b ∷ bs) =
    cond_both (has_token b) (first_empty (k + 1) bs) (Some k)
    (λ o. ((o ≡ None) × AllByRecursion HasToken (b ∷ bs)) ⊎ ((j : ℕ) × (o ≡ Some (k + j)) × FirstWithout HasToken j (b ∷ bs)))
    (λ e. let here : HasToken b = ltb-true 0 (tokens b.staircase b.counter) e in
    elim (first_empty_tells (k + 1) bs) [
      | inl h ↦ inl (h.0, (here, h.1))
      | inr h ↦ let same : k + 1 + h.0 ≡ k + suc h.0 = omega arith in inr (suc h.0, h.1 ∙ ap Some same, (here, h.2))
    ])
    (λ e. let same : k ≡ k + 0 = omega arith in
    inr (0, ap Some same, λ h. omega (arith, ltb-false 0 (tokens b.staircase b.counter) e)))

-- an arrival is taken and each staircase has a token, or it is refused and the first without one is named, counted from 1
pub arrival_cases : (bs : List BucketModel) (due : ℕ)
    → ((taken_unless (first_empty 1 bs) due ≡ served due) × AllByRecursion HasToken bs)
    ⊎ ((j : ℕ) × (taken_unless (first_empty 1 bs) due ≡ refused (record { number = 10; values = suc j ∷ [] })) × FirstWithout HasToken j bs)
arrival_cases bs due =
    elim (first_empty_tells 1 bs) [
      | inl h ↦ inl (ap (λ o. taken_unless o due) h.0, h.1)
      | inr h ↦
          let same : 1 + h.0 ≡ suc h.0 = omega arith in
          inr (h.0, ap (λ o. taken_unless o due) (h.1 ∙ ap Some same), h.2)
    ]

pub taken_has_tokens : (bs : List BucketModel) (due n : ℕ) → served n ≡ taken_unless (first_empty 1 bs) due → AllByRecursion HasToken bs
taken_has_tokens bs due n e =
    elim (arrival_cases bs due) [
      | inl h ↦ h.1
      | inr h ↦ let refuses = h.1 in let z : ◌≡◌ {A = ℕ} 0 1 = cc in absurd (omega arith)
    ]
