-- The search for the first task that does not fit: I is what the tasks before a list may ask, and J what those before one of its
-- lanes may ask.
use Rattle.std.proofs.Common.{◌≡◌, ℕ, zero, suc, ◌+◌, ◌*◌, ◌<◌, ◌≤◌, ◌↔◌, List, [], ◌∷◌, ◌++◌, length, get_or, map, sym, subst, arith}
use Rattle.std.proofs.lemmas.List.{map_more}
use Rattle.fit.specs.Fit.{AllFit, Fits, MisfitAfter, ahead}
use Rattle.fit.specs.Weighing.{Weighs}
use Rattle.lanes.specs.Demand.{demand, load}
use Rattle.lanes.specs.Lane.{LaneModel, lane_of}
use Rattle.lanes.specs.declared.lane.Lane.{Lane}
use Rattle.search.proofs.Fronts.{before}

-- a task fits exactly if it passes in 1024ths
pub fits_by_weight : (w : ℕ) (d I A : ℕ → ℕ) → ((y : ℕ) → A y ≡ 1024 * I y) → Weighs w d A ↔ Fits w d I
fits_by_weight w d I A same = ((λ weighs Δ some. ticks Δ (weighs Δ some)), (λ fits Δ some. parts Δ (fits Δ some)))
  where
    ticks : (Δ : ℕ) → (y : ℕ) × (y ≤ Δ) × (1024 * (w + d Δ) + A y ≤ 1024 * y) → (y : ℕ) × (y ≤ Δ) × (w + d Δ + I y ≤ y)
    ticks Δ (y, le, enough) = (y, le, omega (arith, same y))

    parts : (Δ : ℕ) → (y : ℕ) × (y ≤ Δ) × (w + d Δ + I y ≤ y) → (y : ℕ) × (y ≤ Δ) × (1024 * (w + d Δ) + A y ≤ 1024 * y)
    parts Δ (y, le, enough) = (y, le, omega (arith, same y))

fits_like : (w : ℕ) (d I J : ℕ → ℕ) → ((y : ℕ) → I y ≡ J y) → Fits w d I → Fits w d J
fits_like w d I J same fits Δ some = moved (fits Δ some)
  where
    moved : (y : ℕ) × (y ≤ Δ) × (w + d Δ + I y ≤ y) → (y : ℕ) × (y ≤ Δ) × (w + d Δ + J y ≤ y)
    moved (y, le, enough) = (y, le, omega (arith, same y))

fit_push : (now w : ℕ) (I J : ℕ → ℕ) (ls : List LaneModel) (l : LaneModel) → ((y : ℕ) → J y ≡ I y + ahead ls y)
    → AllFit now w I ls → Fits w (demand now l) J → AllFit now w I (ls ++ l ∷ [])
fit_push now w I J [] l same all fits = (fits_like w (demand now l) J I (λ y. omega (arith, same y)) fits, tt)
fit_push now w I J (k ∷ ls) l same all fits = (all.0, fit_push now w (λ y. I y + load k y) J ls l (λ y. omega (arith, same y)) all.1 fits)

-- one task more fits
pub fit_more : (now w : ℕ) (lanes : List Lane) (i : ℕ) (lane : Lane) → i < length lanes → lane ≡ get_or lanes i lane → AllFit now w (λ y. 0) (before i lanes)
    → Fits w (demand now (lane_of lane)) (ahead (before i lanes)) → AllFit now w (λ y. 0) (before (i + 1) lanes)
fit_more now w lanes i lane h read all fits =
    subst (AllFit now w (λ y. 0)) (sym (map_more lane_of lanes i lane h))
    (fit_push now w (λ y. 0) (ahead (before i lanes)) (before i lanes) (lane_of (get_or lanes i lane)) (λ y. omega arith) all
    (subst (λ (l : Lane). Fits w (demand now (lane_of l)) (ahead (before i lanes))) read fits))

misfit_after : (now w : ℕ) (I J : ℕ → ℕ) (lanes : List Lane) (i : ℕ) (d : Lane) → i < length lanes → ((y : ℕ) → J y ≡ I y + ahead (before i lanes) y)
    → AllFit now w I (before i lanes) → (Fits w (demand now (lane_of (get_or lanes i d))) J → ⊥) → MisfitAfter now w I i (map lane_of lanes)
misfit_after now w I J [] i d h same all not = absurd (omega arith)
misfit_after now w I J (l ∷ lanes) zero d h same all not = λ fits. not (fits_like w (demand now (lane_of l)) I J (λ y. omega (arith, same y)) fits)
misfit_after now w I J (l ∷ lanes) (suc i) d h same all not =
    (all.0, misfit_after now w (λ y. I y + load (lane_of l) y) J lanes i d (omega arith) (λ y. omega (arith, same y)) all.1 not)

-- all tasks before fit, and this one does not
pub misfit_here : (now w : ℕ) (lanes : List Lane) (i : ℕ) (lane : Lane) → i < length lanes → lane ≡ get_or lanes i lane → AllFit now w (λ y. 0) (before i lanes)
    → (Fits w (demand now (lane_of lane)) (ahead (before i lanes)) → ⊥) → MisfitAfter now w (λ y. 0) i (map lane_of lanes)
misfit_here now w lanes i lane h read all not =
    misfit_after now w (λ y. 0) (ahead (before i lanes)) lanes i lane h (λ y. omega arith) all
    (subst (λ (l : Lane). Fits w (demand now (lane_of l)) (ahead (before i lanes)) → ⊥) read not)
