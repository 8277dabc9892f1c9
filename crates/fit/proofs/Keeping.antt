-- How fit lasts for one task behind given ones: over an arrival, over a tick, and while nothing is pending.
use Rattle.std.proofs.Common.{◌≡◌, ℕ, zero, suc, ◌+◌, ◌<◌, ◌≤◌, Bool, true, ◌&&◌, leb, List, [], ◌∷◌, map, inl, inr, add-zero, arith}
use Rattle.std.proofs.lemmas.Bool.{and_parts, cases_lt, cond-true, le-leb}
use Rattle.std.specs.List.{AllByRecursion}
use Rattle.fit.proofs.Demands.{arrived_demand, arrived_load, first_left, runs_demand, runs_load, waits_demand, waits_load}
use Rattle.fit.proofs.Fitting.{fits_less, fits_step, idle_demand, idle_load}
use Rattle.lanes.specs.Demand.{demand}
use Rattle.fit.specs.Fit.{ahead}
use Rattle.lanes.specs.Job.{due_by, within_limit}
use Rattle.fit.specs.Keeps.{Admits, ArrivalKeepsFit, At, FitIsInTime, HasPending, IdleFitsAsFresh, TickKeepsFit}
use Rattle.lanes.specs.Lane.{LaneModel, fresh_lane, fresh_lanes}
use Rattle.fit.specs.State.{none, none_pending}
use Rattle.fit.specs.Steps.{arrived, at_lane, runs, ticked_at, waits}
use Rattle.fit.specs.WellFormed.{LaneFormed}
use Rattle.lanes.specs.declared.job.Job.{Job}

-- an admitted arrival leaves what the tasks may ask together as it was, from the length 1 on
ahead_arrived : (now k : ℕ) (ls : List LaneModel) (y : ℕ) → AllByRecursion LaneFormed ls → At Admits k ls → ahead (at_lane (arrived now) k ls) (suc y) ≡ ahead ls (suc y)
ahead_arrived now k [] y ok admits = absurd admits
ahead_arrived now zero (l ∷ ls) y ok admits = omega (arith, arrived_load now l y ok.0 admits)
ahead_arrived now (suc k) (l ∷ ls) y ok admits = omega (arith, ahead_arrived now k ls y ok.1 admits)

-- a tick at which none of these tasks runs
ahead_waits : (ls : List LaneModel) (y : ℕ) → AllByRecursion LaneFormed ls → ahead (map waits ls) y ≤ ahead ls (suc y)
ahead_waits [] y ok = omega arith
ahead_waits (l ∷ ls) y ok = omega (arith, waits_load l y ok.0, ahead_waits ls y ok.1)

-- and one at which one of them does
ahead_ticked : (said : Bool) (k : ℕ) (ls : List LaneModel) (y : ℕ) → AllByRecursion LaneFormed ls → At HasPending k ls → ahead (ticked_at said k ls) y + 1 ≤ ahead ls (suc y)
ahead_ticked said k [] y ok some = absurd some
ahead_ticked said zero (l ∷ ls) y ok some = omega (arith, runs_load said l y ok.0 some, ahead_waits ls y ok.1)
ahead_ticked said (suc k) (l ∷ ls) y ok some = omega (arith, waits_load l y ok.0, ahead_ticked said k ls y ok.1 some)

-- tasks with nothing pending may ask no more than when fresh
ahead_idle : (ls : List LaneModel) (y : ℕ) → AllByRecursion LaneFormed ls → none_pending ls ≡ true → ahead ls y ≤ ahead (fresh_lanes ls) y
ahead_idle [] y ok idle = omega arith
ahead_idle (l ∷ ls) y ok idle =
    let parts = and_parts (none l.pending) (none_pending ls) idle in
    omega (arith, idle_load l y ok.0 parts.0, ahead_idle ls y ok.1 parts.1)

pub arrival_keeps_fit : ArrivalKeepsFit
arrival_keeps_fit =
    record {
      own = λ now w before l ok admits.
          fits_less w w (demand now l) (demand now (arrived now l)) (ahead before) (ahead before) (omega arith)
          (λ Δ. omega (arith, arrived_demand now l Δ ok admits)) (λ y. omega arith);
      behind = λ now w k before l ok admits.
          fits_less w w (demand now l) (demand now l) (ahead before) (ahead (at_lane (arrived now) k before)) (omega arith)
          (λ Δ. omega arith) (λ y. omega (arith, ahead_arrived now k before y ok admits));
    }

pub tick_keeps_fit : TickKeepsFit
tick_keeps_fit =
    record {
      background = λ now w v before l ok lower.
          fits_step w v (demand now l) (demand (suc now) (waits l)) (ahead before) (ahead (map waits before))
          (λ Δ h. omega (arith, waits_demand now l Δ ok.0))
          (λ Δ y h. omega (arith, waits_demand now l Δ ok.0, ahead_waits before y ok.1));
      behind = λ now w k said before l ok some.
          fits_step w w (demand now l) (demand (suc now) (waits l)) (ahead before) (ahead (ticked_at said k before))
          (λ Δ h. omega (arith, waits_demand now l Δ ok.0))
          (λ Δ y h. omega (arith, waits_demand now l Δ ok.0, ahead_ticked said k before y ok.1 some));
      own = λ now w said before l ok ordered some.
          fits_step w w (demand now l) (demand (suc now) (runs said l)) (ahead before) (ahead (map waits before))
          (λ Δ h. omega (arith, runs_demand said now l Δ ok.0 ordered some h))
          (λ Δ y h. omega (arith, runs_demand said now l Δ ok.0 ordered some h, ahead_waits before y ok.1));
    }

pub idle_fits_as_fresh : IdleFitsAsFresh
idle_fits_as_fresh opened now w v before l ok idle lower =
    let parts = and_parts (none l.pending) (none_pending before) idle in
    fits_less w v (demand opened (fresh_lane l.task)) (demand now l) (ahead (fresh_lanes before)) (ahead before) lower
    (λ Δ. idle_demand opened now l Δ ok.0 parts.0) (λ y. ahead_idle before (suc y) ok.1 parts.1)

-- where nothing is due by now, each job is due later
due_later : (now limit : ℕ) (js : List Job) → within_limit limit js ≡ true → due_by now js ≡ 0 → AllByRecursion (λ j. now < j.due) js
due_later now limit [] worked h = tt
due_later now limit (j ∷ js) worked h = (
  elim (cases_lt now j.due) [
    | inl later ↦ later
    | inr due ↦ absurd (omega (arith, first_left limit j js worked, cond-true (leb j.due now) j.remaining 0 (le-leb j.due now due)))
  ],
  due_later now limit js (and_parts (leb 1 j.remaining && leb j.remaining limit) (within_limit limit js) worked).1 (omega arith),
)

-- at the length 0 only the length 0 is at hand, which is not enough for any demand
pub fit_is_in_time : FitIsInTime
fit_is_in_time now w before l ok fit =
    due_later now l.task.limit l.pending ok.worked
    (elim (cases_lt 0 (demand now l 0)) [
      | inl h ↦ let r : (y : ℕ) × (y ≤ 0) × (w + demand now l 0 + ahead before y ≤ y) = fit 0 h in absurd (omega (arith, r.1, r.2))
      | inr h ↦ let none-now : due_by (now + 0) l.pending ≡ 0 = omega arith in rw add-zero at none-now
    ])
