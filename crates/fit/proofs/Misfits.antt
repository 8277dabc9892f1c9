-- The search finds the first task that does not fit, where no length above its bound decides.
use Rattle.std.proofs.Common.{◌≡◌, ℕ, suc, ◌+◌, List, [], ◌∷◌, Some, None, Decides, Option, arith}
use Rattle.std.proofs.lemmas.Bool.{both_ways, cond_both}
use Rattle.lanes.specs.Demand.{demand, load}
use Rattle.fit.specs.Fit.{AllFit, FirstMisfit, Fits, MisfitAfter}
use Rattle.lanes.specs.Lane.{LaneModel}
use Rattle.fit.specs.Search.{fits_to, misfit_to}
use Rattle.fit.proofs.Decisions.{FitsBelow, decides_fits_to}

-- for each task of these lanes the lengths up to b decide whether it fits with w; I is what the tasks before them may ask
abbrev pub FarEnough : ℕ → ℕ → ℕ → (ℕ → ℕ) → List LaneModel → Type 0
FarEnough b now w I [] = Unit {0}
FarEnough b now w I (l ∷ ls) = (FitsBelow (suc b) w (demand now l) I → Fits w (demand now l) I) × FarEnough b now w (λ y. I y + load l y) ls

-- what the search finds in these lanes, where the first of them has the number n
abbrev Found : ℕ → ℕ → ℕ → (ℕ → ℕ) → List LaneModel → Option ℕ → Type 0
Found n now w I ls None = AllFit now w I ls
Found n now w I ls (Some m) = (k : ℕ) × (m ≡ n + k) × MisfitAfter now w I k ls

-- a task that fits is passed over
found_later : (n now w : ℕ) (I : ℕ → ℕ) (l : LaneModel) (ls : List LaneModel) (o : Option ℕ) → Fits w (demand now l) I
    → Found (n + 1) now w (λ y. I y + load l y) ls o → Found n now w I (l ∷ ls) o
found_later n now w I l ls None fits rest = (fits, rest)
found_later n now w I l ls (Some m) fits (k, e, misfit) = (suc k, omega arith, (fits, misfit))

found : (b n now w : ℕ) (I : ℕ → ℕ) (ls : List LaneModel) → FarEnough b now w I ls → Found n now w I ls (misfit_to b n now w I ls)
found b n now w I [] far = tt
found b n now w I (l ∷ ls) far =
    let J : ℕ → ℕ = λ y. I y + load l y in
    let test : Decides (fits_to b w (demand now l) I) (FitsBelow (suc b) w (demand now l) I) = decides_fits_to b w (demand now l) I in
    cond_both (fits_to b w (demand now l) I) (misfit_to b (n + 1) now w J ls) (Some n) (Found n now w I (l ∷ ls))
    (λ e. found_later n now w I l ls (misfit_to b (n + 1) now w J ls) (far.0 (test.0 e)) (found b (n + 1) now w J ls far.1))
    (λ e. (0, omega arith, (λ fits. both_ways (fits_to b w (demand now l) I) e (test.1 (λ Δ lt h. fits Δ h)))))

pub misfit_found : (b now w : ℕ) (ls : List LaneModel) → FarEnough b now w (λ y. 0) ls → FirstMisfit now w ls (misfit_to b 1 now w (λ y. 0) ls)
misfit_found b now w ls far = counted (misfit_to b 1 now w (λ y. 0) ls) (found b 1 now w (λ y. 0) ls far)
  where
    counted : (o : Option ℕ) → Found 1 now w (λ y. 0) ls o → FirstMisfit now w ls o
    counted None fit = fit
    counted (Some m) (k, e, misfit) = (k, omega arith, misfit)
