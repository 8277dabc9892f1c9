-- How fit lasts for every task of a list: behind tasks that may ask I before the step, J after it, and K when all were fresh.
use Rattle.std.proofs.Common.{◌≡◌, ℕ, zero, suc, ◌+◌, ◌≤◌, Bool, true, List, [], ◌∷◌, map, take, arith}
use Rattle.std.proofs.lemmas.Bool.{and_parts}
use Rattle.std.specs.List.{AllByRecursion}
use Rattle.fit.proofs.Demands.{arrived_demand, arrived_load, runs_demand, runs_load, waits_demand, waits_load}
use Rattle.fit.proofs.Fitting.{all_fit_less, fits_less, fits_step, idle_demand, idle_load}
use Rattle.lanes.specs.Demand.{demand, load}
use Rattle.fit.specs.Fit.{AllFit}
use Rattle.fit.specs.Keeps.{Admits, At, HasPending}
use Rattle.lanes.specs.Lane.{LaneModel, fresh_lane, fresh_lanes}
use Rattle.fit.specs.State.{none, none_pending}
use Rattle.fit.specs.Steps.{arrived, at_lane, runs, ticked_at, waits}
use Rattle.fit.specs.WellFormed.{DuesInOrder, LaneFormed}

-- an admitted arrival keeps the fit of every task
pub arrived_all_fit : (now w k : ℕ) (I : ℕ → ℕ) (ls : List LaneModel) → AllByRecursion LaneFormed ls → At Admits k ls
    → AllFit now w I ls → AllFit now w I (at_lane (arrived now) k ls)
arrived_all_fit now w k I [] ok admits fit = tt
arrived_all_fit now w zero I (l ∷ ls) ok admits fit = (
  fits_less w w (demand now l) (demand now (arrived now l)) I I (omega arith) (λ Δ. omega (arith, arrived_demand now l Δ ok.0 admits)) (λ y. omega arith) fit.0,
  all_fit_less now w w (λ y. I y + load l y) (λ y. I y + load (arrived now l) y) ls (omega arith) (λ y. omega (arith, arrived_load now l y ok.0 admits)) fit.1,
)
arrived_all_fit now w (suc k) I (l ∷ ls) ok admits fit = (fit.0, arrived_all_fit now w k (λ y. I y + load l y) ls ok.1 admits fit.1)

-- a tick at which none of these tasks runs, but somebody before them
pub waits_all_fit : (now w v : ℕ) (I J : ℕ → ℕ) (ls : List LaneModel) → AllByRecursion LaneFormed ls → ((y : ℕ) → v + J y + 1 ≤ w + I (suc y))
    → AllFit now w I ls → AllFit (suc now) v J (map waits ls)
waits_all_fit now w v I J [] ok less fit = tt
waits_all_fit now w v I J (l ∷ ls) ok less fit = (
  fits_step w v (demand now l) (demand (suc now) (waits l)) I J
      (λ Δ h. omega (arith, waits_demand now l Δ ok.0)) (λ Δ y h. omega (arith, waits_demand now l Δ ok.0, less y)) fit.0,
  waits_all_fit now w v (λ y. I y + load l y) (λ y. J y + load (waits l) y) ls ok.1 (λ y. omega (arith, less y, waits_load l y ok.0)) fit.1,
)

-- A tick at which the task with k tasks before it runs, which have nothing pending: those fit as when fresh, with any amount up to that of then.
pub ticked_all_fit : (opened now w w0 k : ℕ) (said : Bool) (I J K : ℕ → ℕ) (ls : List LaneModel) → w ≤ w0
    → AllByRecursion LaneFormed ls → AllByRecursion (DuesInOrder now) ls → AllByRecursion LaneFormed (ticked_at said k ls)
    → none_pending (take k ls) ≡ true → At HasPending k ls
    → ((y : ℕ) → J y ≤ I (suc y)) → ((y : ℕ) → J y ≤ K y)
    → AllFit opened w0 K (fresh_lanes ls) → AllFit now w I ls → AllFit (suc now) w J (ticked_at said k ls)
ticked_all_fit opened now w w0 k said I J K [] lower ok ordered after idle some less fewer fresh fit = tt
ticked_all_fit opened now w w0 zero said I J K (l ∷ ls) lower ok ordered after idle some less fewer fresh fit = (
  fits_step w w (demand now l) (demand (suc now) (runs said l)) I J
      (λ Δ h. omega (arith, runs_demand said now l Δ ok.0 ordered.0 some h))
      (λ Δ y h. omega (arith, runs_demand said now l Δ ok.0 ordered.0 some h, less y)) fit.0,
  waits_all_fit now w w (λ y. I y + load l y) (λ y. J y + load (runs said l) y) ls ok.1
      (λ y. omega (arith, less y, runs_load said l y ok.0 some)) fit.1,
)
ticked_all_fit opened now w w0 (suc k) said I J K (l ∷ ls) lower ok ordered after idle some less fewer fresh fit =
    let parts = and_parts (none l.pending) (none_pending (take k ls)) idle in (
      fits_less w0 w (demand opened (fresh_lane l.task)) (demand (suc now) (waits l)) K J lower
          (λ Δ. idle_demand opened (suc now) (waits l) Δ after.0 parts.0) (λ y. fewer (suc y)) fresh.0,
      ticked_all_fit opened now w w0 k said (λ y. I y + load l y) (λ y. J y + load (waits l) y) (λ y. K y + load (fresh_lane l.task) y) ls lower
          ok.1 ordered.1 after.1 parts.1 some
          (λ y. omega (arith, less y, waits_load l y ok.0))
          (λ y. omega (arith, fewer y, idle_load (waits l) y after.0 parts.0)) fresh.1 fit.1,
    )
