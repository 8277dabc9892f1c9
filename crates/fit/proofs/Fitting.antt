-- What keeps fit: the two steps, one tick later and at the same instant, and what follows from them for a list of lanes.
use Rattle.std.proofs.Common.{◌≡◌, ℕ, zero, suc, ◌+◌, ◌-◌, ◌<◌, ◌≤◌, true, List, [], ◌∷◌, refl, mul-le-mul_left, arith}
use Rattle.std.proofs.lemmas.Bool.{and_parts}
use Rattle.std.specs.List.{AllByRecursion}
use Rattle.fit.proofs.Counting.{at_most_fresh}
use Rattle.lanes.specs.Demand.{demand, load}
use Rattle.fit.specs.Fit.{AllFit, Fits}
use Rattle.lanes.specs.Job.{backlog, due_by}
use Rattle.lanes.specs.Lane.{LaneModel, fresh_lane, fresh_lanes}
use Rattle.fit.specs.State.{none, none_pending}
use Rattle.fit.specs.WellFormed.{LaneFormed}
use Rattle.lanes.specs.declared.job.Job.{Job}

-- One tick later: what was enough by the length y + 1 is enough by y, where somebody's tick of work is done.
-- That there was demand is asked on its own, since what falls by the tick may be the amount.
pub fits_step : (w v : ℕ) (d e I J : ℕ → ℕ)
    → ((Δ : ℕ) → 0 < e Δ → 0 < d (suc Δ))
    → ((Δ y : ℕ) → 0 < e Δ → v + e Δ + J y + 1 ≤ w + d (suc Δ) + I (suc y))
    → Fits w d I → Fits v e J
fits_step w v d e I J asked less fit Δ h = later (fit (suc Δ) (asked Δ h))
  where
    later : (y : ℕ) × (y ≤ suc Δ) × (w + d (suc Δ) + I y ≤ y) → (y : ℕ) × (y ≤ Δ) × (v + e Δ + J y ≤ y)
    later (zero, a, b) = absurd (omega (arith, asked Δ h))
    later (suc y, a, b) = (y, omega arith, omega (arith, less Δ y h))

-- At the same instant, with no more demand and no more ahead. The length 0 is never enough where there is demand.
pub fits_less : (w v : ℕ) (d e I J : ℕ → ℕ) → v ≤ w → ((Δ : ℕ) → e Δ ≤ d Δ) → ((y : ℕ) → J (suc y) ≤ I (suc y)) → Fits w d I → Fits v e J
fits_less w v d e I J lower less fewer fit Δ h = same (fit Δ (omega (arith, less Δ)))
  where
    same : (y : ℕ) × (y ≤ Δ) × (w + d Δ + I y ≤ y) → (y : ℕ) × (y ≤ Δ) × (v + e Δ + J y ≤ y)
    same (zero, a, b) = absurd (omega (arith, less Δ))
    same (suc y, a, b) = (suc y, a, omega (arith, less Δ, fewer y))

-- a smaller amount fits too
pub fits_with_less : (w v : ℕ) (d I : ℕ → ℕ) → v ≤ w → Fits w d I → Fits v d I
fits_with_less w v d I lower = fits_less w v d d I I lower (λ Δ. omega arith) (λ y. omega arith)

-- every task of these lanes fits with a smaller amount, behind tasks that may ask no more
pub all_fit_less : (now w v : ℕ) (I J : ℕ → ℕ) (ls : List LaneModel) → v ≤ w → ((y : ℕ) → J (suc y) ≤ I (suc y)) → AllFit now w I ls → AllFit now v J ls
all_fit_less now w v I J [] lower fewer fit = tt
all_fit_less now w v I J (l ∷ ls) lower fewer fit = (
  fits_less w v (demand now l) (demand now l) I J lower (λ Δ. omega arith) fewer fit.0,
  all_fit_less now w v (λ y. I y + load l y) (λ y. J y + load l y) ls lower (λ y. omega (arith, fewer y)) fit.1,
)

-- with nothing pending, nothing is due and nothing remains
none_due : (t : ℕ) (js : List Job) → none js ≡ true → due_by t js ≡ 0
none_due t [] h = refl
none_due t (j ∷ js) h = let z : ◌≡◌ {A = ℕ} 0 1 = cc in absurd (omega arith)

none_remains : (js : List Job) → none js ≡ true → backlog js ≡ 0
none_remains [] h = refl
none_remains (j ∷ js) h = let z : ◌≡◌ {A = ℕ} 0 1 = cc in absurd (omega arith)

-- a task with nothing pending asks no more than when fresh, at whatever readings
pub idle_demand : (opened now : ℕ) (l : LaneModel) (Δ : ℕ) → LaneFormed l → none l.pending ≡ true → demand now l Δ ≤ demand opened (fresh_lane l.task) Δ
idle_demand opened now l Δ ok h =
    omega (arith, none_due (now + Δ) l.pending h, mul-le-mul_left l.task.limit (at_most_fresh (suc Δ - l.task.deadline) l ok))

pub idle_load : (l : LaneModel) (y : ℕ) → LaneFormed l → none l.pending ≡ true → load l y ≤ load (fresh_lane l.task) y
idle_load l y ok h = omega (arith, none_remains l.pending h, mul-le-mul_left l.task.limit (at_most_fresh y l ok))

-- lanes with nothing pending fit as when fresh, with any amount up to that of then
pub idle_all_fit : (opened now w v : ℕ) (J K : ℕ → ℕ) (ls : List LaneModel) → v ≤ w → AllByRecursion LaneFormed ls → none_pending ls ≡ true → ((y : ℕ) → J y ≤ K y)
    → AllFit opened w K (fresh_lanes ls) → AllFit now v J ls
idle_all_fit opened now w v J K [] lower ok idle fewer fit = tt
idle_all_fit opened now w v J K (l ∷ ls) lower ok idle fewer fit =
    let parts = and_parts (none l.pending) (none_pending ls) idle in (
      fits_less w v (demand opened (fresh_lane l.task)) (demand now l) K J lower
          (λ Δ. idle_demand opened now l Δ ok.0 parts.0) (λ y. fewer (suc y)) fit.0,
      idle_all_fit opened now w v (λ y. J y + load l y) (λ y. K y + load (fresh_lane l.task) y) ls lower ok.1 parts.1
          (λ y. omega (arith, fewer y, idle_load l y ok.0 parts.0)) fit.1,
    )
