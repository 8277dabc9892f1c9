-- A state is sound when it is freshly opened on tasks that fit.
use Rattle.std.proofs.Common.{◌≡◌, ℕ, ◌+◌, ◌-◌, ◌≤◌, ◌⊎◌, List, [], ◌∷◌, map, sym, refl, ap, subst, inl, inr, arith}
use Rattle.std.specs.List.{AllByRecursion}
use Rattle.fit.proofs.Allowances.{exact_bound, exact_fits, exact_most}
use Rattle.fit.proofs.Fitting.{idle_all_fit}
use Rattle.fit.proofs.Fresh.{fresh_idle, tasks_fresh_formed}
use Rattle.fit.specs.Exact.{ExactlyFits, exact_allowance, fresh_allowance_of}
use Rattle.fit.specs.Fit.{AllFit}
use Rattle.fit.specs.FreshAllowance.{FreshAtAnyReading}
use Rattle.fit.specs.Sound.{Sound}
use Rattle.fit.specs.State.{fresh_state}
use Rattle.fit.specs.WellFormed.{LaneFormed}
use Rattle.lanes.proofs.Fresh.{tasks_of_fresh}
use Rattle.lanes.specs.Lane.{LaneModel, fresh_lane, fresh_lanes}
use Rattle.tasks.specs.Task.{TaskModel}
use Rattle.tasks.specs.TaskSet.{shares}

still_fresh : (ts : List TaskModel) → fresh_lanes (map fresh_lane ts) ≡ map fresh_lane ts
still_fresh [] = refl
still_fresh (t ∷ ts) = ap (λ ls. fresh_lane t ∷ ls) (still_fresh ts)

-- fit of fresh lanes does not depend on the reading of the clock
fits_at_any_reading : (then now w v : ℕ) (ts : List TaskModel) → AllByRecursion LaneFormed (map fresh_lane ts) → v ≤ w
    → AllFit then w (λ y. 0) (map fresh_lane ts) → AllFit now v (λ y. 0) (map fresh_lane ts)
fits_at_any_reading then now w v ts ok le fit =
    idle_all_fit then now w v (λ y. 0) (λ y. 0) (map fresh_lane ts) le ok (fresh_idle ts) (λ y. omega arith)
    (subst (λ (ls : List LaneModel). AllFit then w (λ y. 0) ls) (sym (still_fresh ts)) fit)

-- where every task fits with 0, every task fits with the fresh allowance
fits_fresh_allowance : (ts : List TaskModel) → AllByRecursion LaneFormed (map fresh_lane ts) → shares ts ≤ 960 → AllFit 0 0 (λ y. 0) (map fresh_lane ts)
    → AllFit 0 (fresh_allowance_of ts) (λ y. 0) (map fresh_lane ts)
fits_fresh_allowance ts ok light fit =
    let found : ExactlyFits 0 (map fresh_lane ts) (fresh_allowance_of ts) = exact_fits 0 (map fresh_lane ts) ok (subst (λ (us : List TaskModel). shares us ≤ 960) (sym (tasks_of_fresh ts)) light) in
    elim found.which [ inl which ↦ (which (fresh_allowance_of ts) found.top).1 (omega arith) | inr none ↦ absurd (none.0 0 (omega arith) fit) ]

pub fresh_sound : (reading : ℕ) (ts : List TaskModel) → AllByRecursion LaneFormed (map fresh_lane ts) → shares ts ≤ 960 → AllFit reading 0 (λ y. 0) (map fresh_lane ts) → Sound (fresh_state reading ts)
fresh_sound reading ts ok light fit =
    let w0 : ℕ = fresh_allowance_of ts in
    let fits : AllFit reading w0 (λ y. 0) (map fresh_lane ts) = fits_at_any_reading 0 reading w0 w0 ts ok (omega arith)
    (fits_fresh_allowance ts ok light (fits_at_any_reading reading 0 0 0 ts ok (omega arith) fit)) in
    let same : 0 + w0 - 0 ≡ w0 = omega arith in
    record {
      bounded = omega arith;
      granted = omega arith;
      fit = fit;
      fit_rest = λ h.
          subst (λ (us : List TaskModel). AllFit reading (0 + fresh_allowance_of us - 0) (λ y. 0) (map fresh_lane ts)) (sym (tasks_of_fresh ts))
          (subst (λ (w : ℕ). AllFit reading w (λ y. 0) (map fresh_lane ts)) (sym same) fits);
    }

-- the exact allowance of fresh lanes is 0 or an amount with which every task fits
fits_or_none : (reading : ℕ) (ts : List TaskModel) → AllByRecursion LaneFormed (map fresh_lane ts) → shares ts ≤ 960
    → (exact_allowance reading (map fresh_lane ts) ≡ 0) ⊎ AllFit reading (exact_allowance reading (map fresh_lane ts)) (λ y. 0) (map fresh_lane ts)
fits_or_none reading ts ok light =
    let w : ℕ = exact_allowance reading (map fresh_lane ts) in
    let found : ExactlyFits reading (map fresh_lane ts) w = exact_fits reading (map fresh_lane ts) ok (subst (λ (us : List TaskModel). shares us ≤ 960) (sym (tasks_of_fresh ts)) light) in
    elim found.which [ inl which ↦ inr ((which w found.top).1 (omega arith)) | inr none ↦ inl none.1 ]

-- so it is at most that at any other reading
at_most_at_any_reading : (then now : ℕ) (ts : List TaskModel) → AllByRecursion LaneFormed (map fresh_lane ts) → shares ts ≤ 960
    → exact_allowance then (map fresh_lane ts) ≤ exact_allowance now (map fresh_lane ts)
at_most_at_any_reading then now ts ok light =
    let w : ℕ = exact_allowance then (map fresh_lane ts) in
    elim (fits_or_none then ts ok light) [
      | inl none ↦ omega arith
      | inr fit ↦ exact_most now w (map fresh_lane ts) (exact_bound then (map fresh_lane ts)) (fits_at_any_reading then now w w ts ok (omega arith) fit)
    ]

pub fresh_at_any_reading : FreshAtAnyReading
fresh_at_any_reading reading ts formed light =
    let ok : AllByRecursion LaneFormed (map fresh_lane ts) = tasks_fresh_formed ts formed in
    omega (arith, at_most_at_any_reading reading 0 ts ok light, at_most_at_any_reading 0 reading ts ok light)
