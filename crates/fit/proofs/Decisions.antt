-- The searches over the lengths up to b decide whether tasks fit, and whether they pass, at the lengths below b + 1.
use Rattle.std.proofs.Common.{◌≡◌, ℕ, suc, ◌+◌, ◌*◌, ◌<◌, ◌≤◌, Bool, ◌||◌, eqb, leb, ◌⊎◌, List, [], ◌∷◌, Decides, refl, inl, inr, arith}
use Rattle.std.proofs.lemmas.Bool.{cases_lt, le-leb, leb-true}
use Rattle.std.proofs.lemmas.Bool.Decides.{Decides-and, Decides-below_and, Decides-below_or, Decides-eqb, Decides-like, Decides-or}
use Rattle.lanes.specs.Demand.{demand, load}
use Rattle.lanes.specs.Lane.{LaneModel}
use Rattle.fit.specs.Line.{all_pass_to, passes_to}
use Rattle.lanes.specs.Line.{line_load}
use Rattle.fit.specs.Search.{all_below, all_fit_to, fits_to, some_below}

-- `Fits`, `AllFit`, `Passes` and `AllPass` at the lengths below b alone
abbrev pub FitsBelow : ℕ → ℕ → (ℕ → ℕ) → (ℕ → ℕ) → Type 0
FitsBelow b w d I = (Δ : ℕ) → Δ < b → 0 < d Δ → (y : ℕ) × (y ≤ Δ) × (w + d Δ + I y ≤ y)

abbrev pub AllFitBelow : ℕ → ℕ → ℕ → (ℕ → ℕ) → List LaneModel → Type 0
AllFitBelow b now w I [] = Unit {0}
AllFitBelow b now w I (l ∷ ls) = FitsBelow b w (demand now l) I × AllFitBelow b now w (λ y. I y + load l y) ls

abbrev pub PassesBelow : ℕ → ℕ → (ℕ → ℕ) → (ℕ → ℕ) → Type 0
PassesBelow b w d A = (Δ : ℕ) → Δ < b → 0 < d Δ → 1024 * (w + d Δ) + A Δ ≤ 1024 * Δ

abbrev pub AllPassBelow : ℕ → ℕ → ℕ → (ℕ → ℕ) → List LaneModel → Type 0
AllPassBelow b now w A [] = Unit {0}
AllPassBelow b now w A (l ∷ ls) = PassesBelow b w (demand now l) A × AllPassBelow b now w (λ y. A y + line_load l y) ls

decides_leb : (a b : ℕ) → Decides (leb a b) (a ≤ b)
decides_leb a b = (leb-true a b, le-leb a b)

-- a test that is passed where there is no demand, or where t passes
decides_demanded : {P : Type 0} (d : ℕ) (t : Bool) → Decides t P → Decides (eqb d 0 || t) (0 < d → P)
decides_demanded {P} d t decides =
    Decides-like (eqb d 0 || t) at_demand (λ f. elim (cases_lt 0 d) [ inl h ↦ inr (f h) | inr h ↦ inl (omega arith) ])
    (Decides-or (eqb d 0) t (Decides-eqb d 0) decides)
  where
    at_demand : ((d ≡ 0) ⊎ P) → 0 < d → P
    at_demand (inl e) h = absurd (omega arith)
    at_demand (inr p) h = p

-- whether some length up to Δ is enough
decides_enough : (v Δ : ℕ) (I : ℕ → ℕ) → Decides (some_below (λ y. leb (v + I y) y) (suc Δ)) ((y : ℕ) × (y ≤ Δ) × (v + I y ≤ y))
decides_enough v Δ I =
    Decides-like (some_below (λ y. leb (v + I y) y) (suc Δ)) (λ r. (r.0, omega (arith, r.1), r.2)) (λ r. (r.0, omega (arith, r.1), r.2))
    (Decides-below_or (λ y. leb (v + I y) y) (λ y. v + I y ≤ y) (some_below (λ y. leb (v + I y) y)) (λ y. decides_leb (v + I y) y) refl (λ _. refl) (suc Δ))

pub decides_fits_to : (b w : ℕ) (d I : ℕ → ℕ) → Decides (fits_to b w d I) (FitsBelow (suc b) w d I)
decides_fits_to b w d I = Decides-below_and test (λ Δ. 0 < d Δ → (y : ℕ) × (y ≤ Δ) × (w + d Δ + I y ≤ y)) (all_below test) each refl (λ _. refl) (suc b)
  where
    test : ℕ → Bool
    test Δ = eqb (d Δ) 0 || some_below (λ y. leb (w + d Δ + I y) y) (suc Δ)

    each : (Δ : ℕ) → Decides (test Δ) (0 < d Δ → (y : ℕ) × (y ≤ Δ) × (w + d Δ + I y ≤ y))
    each Δ = decides_demanded (d Δ) (some_below (λ y. leb (w + d Δ + I y) y) (suc Δ)) (decides_enough (w + d Δ) Δ I)

pub decides_all_fit_to : (b now w : ℕ) (I : ℕ → ℕ) (ls : List LaneModel) → Decides (all_fit_to b now w I ls) (AllFitBelow (suc b) now w I ls)
decides_all_fit_to b now w I [] = ((λ e. tt), (λ t. refl))
decides_all_fit_to b now w I (l ∷ ls) =
    Decides-and (fits_to b w (demand now l) I) (all_fit_to b now w (λ y. I y + load l y) ls)
    (decides_fits_to b w (demand now l) I) (decides_all_fit_to b now w (λ y. I y + load l y) ls)

pub decides_passes_to : (b w : ℕ) (d A : ℕ → ℕ) → Decides (passes_to b w d A) (PassesBelow (suc b) w d A)
decides_passes_to b w d A = Decides-below_and test (λ Δ. 0 < d Δ → 1024 * (w + d Δ) + A Δ ≤ 1024 * Δ) (all_below test) each refl (λ _. refl) (suc b)
  where
    test : ℕ → Bool
    test Δ = eqb (d Δ) 0 || leb (1024 * (w + d Δ) + A Δ) (1024 * Δ)

    each : (Δ : ℕ) → Decides (test Δ) (0 < d Δ → 1024 * (w + d Δ) + A Δ ≤ 1024 * Δ)
    each Δ = decides_demanded (d Δ) (leb (1024 * (w + d Δ) + A Δ) (1024 * Δ)) (decides_leb (1024 * (w + d Δ) + A Δ) (1024 * Δ))

pub decides_all_pass_to : (b now w : ℕ) (A : ℕ → ℕ) (ls : List LaneModel) → Decides (all_pass_to b now w A ls) (AllPassBelow (suc b) now w A ls)
decides_all_pass_to b now w A [] = ((λ e. tt), (λ t. refl))
decides_all_pass_to b now w A (l ∷ ls) =
    Decides-and (passes_to b w (demand now l) A) (all_pass_to b now w (λ y. A y + line_load l y) ls)
    (decides_passes_to b w (demand now l) A) (decides_all_pass_to b now w (λ y. A y + line_load l y) ls)
