-- What the tasks before may ask, added up along the lanes, is what their lanes may ask together.
use Rattle.std.proofs.Common.{◌≡◌, ℕ, ◌+◌, ◌≤◌, ◌↔◌, List, [], ◌∷◌, ◌++◌, sym, refl, arith}
use Rattle.fit.specs.Fit.{AllFit, Fits, ahead}
use Rattle.fit.specs.FitBehind.{AllFitBehind, EachFitsBehind}
use Rattle.lanes.specs.Demand.{demand, load}
use Rattle.lanes.specs.Lane.{LaneModel}

ahead_more : (before : List LaneModel) (l : LaneModel) (y : ℕ) → ahead (before ++ (l ∷ [])) y ≡ ahead before y + load l y
ahead_more [] l y = omega arith
ahead_more (k ∷ before) l y = omega (arith, ahead_more before l y)

fits_same : (w : ℕ) (d I J : ℕ → ℕ) → ((y : ℕ) → I y ≡ J y) → Fits w d I → Fits w d J
fits_same w d I J same fit Δ h =
    let r : (y : ℕ) × (y ≤ Δ) × (w + d Δ + I y ≤ y) = fit Δ h in
    (r.0, r.1, omega (arith, r.2, same r.0))

behind : (now w : ℕ) (I : ℕ → ℕ) (before ls : List LaneModel) → ((y : ℕ) → I y ≡ ahead before y) → AllFit now w I ls ↔ EachFitsBehind now w before ls
behind now w I before [] same = ((λ f. tt), (λ f. tt))
behind now w I before (l ∷ ls) same =
    let rest : AllFit now w (λ y. I y + load l y) ls ↔ EachFitsBehind now w (before ++ (l ∷ [])) ls =
    behind now w (λ y. I y + load l y) (before ++ (l ∷ [])) ls (λ y. omega (arith, same y, ahead_more before l y)) in (
      (λ f. (fits_same w (demand now l) I (ahead before) same f.0, rest.0 f.1)),
      (λ f. (fits_same w (demand now l) (ahead before) I (λ y. sym (same y)) f.0, rest.1 f.1)),
    )

pub all_fit_behind : AllFitBehind
all_fit_behind now w ls = behind now w (λ y. 0) [] ls (λ y. refl)
