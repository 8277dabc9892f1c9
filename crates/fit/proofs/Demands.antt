-- What an arrival and a tick make of the demand and the load of a task. Dues are readings of the clock, so what is due within Δ of the next
-- instant is due within Δ + 1 of this one.
use Rattle.std.proofs.Common.{◌≡◌, ℕ, suc, ◌+◌, ◌-◌, ◌*◌, ◌<◌, ◌≤◌, Bool, true, false, cond, ◌&&◌, ◌||◌, eqb, leb, List, [], ◌∷◌, ◌++◌, map, refl, ap, inl, inr, mul-le-mul_left, mul-zero, arith}
use Rattle.std.proofs.lemmas.Bool.{and_parts, cases_lt, cond_both, cond-false, cond-true, le-leb, leb-true, lt-leb}
use Rattle.arrivals.proofs.Continuations.{tick_allows}
use Rattle.arrivals.specs.Bucket.{arrivals_within, bucket_after}
use Rattle.arrivals.specs.declared.counter.Event.TheVariants.{Tick}
use Rattle.fit.proofs.Counting.{arrival_takes_one, arrivals_at_none, steps_above, tick_allows_by_deadline}
use Rattle.lanes.specs.Demand.{demand, load}
use Rattle.lanes.specs.Job.{backlog, due_by, in_order, within_limit}
use Rattle.fit.specs.Keeps.{Admits, HasPending}
use Rattle.lanes.specs.Lane.{LaneModel}
use Rattle.fit.specs.State.{none}
use Rattle.fit.specs.Steps.{aged, arrived, oldest_served, runs, waits}
use Rattle.fit.specs.WellFormed.{DuesInOrder, LaneFormed}
use Rattle.lanes.specs.declared.job.Job.{Job}

-- a job more at the end of the queue
backlog_push : (js : List Job) (j : Job) → backlog (js ++ j ∷ []) ≡ backlog js + j.remaining
backlog_push [] j = omega arith
backlog_push (i ∷ js) j = omega (arith, backlog_push js j)

due_by_push : (t : ℕ) (js : List Job) (j : Job) → due_by t (js ++ j ∷ []) ≡ due_by t js + cond (leb j.due t) j.remaining 0
due_by_push t [] j = omega arith
due_by_push t (i ∷ js) j = omega (arith, due_by_push t js j)

-- An admitted arrival leaves the load as it was from the length 1 on: the job that is pending now is one of those that could arrive.
pub arrived_load : (now : ℕ) (l : LaneModel) (y : ℕ) → LaneFormed l → Admits l → load (arrived now l) (suc y) ≡ load l (suc y)
arrived_load now l y ok admits =
    omega (
      arith,
      backlog_push l.pending (record { due = now + l.task.deadline; remaining = l.task.limit }),
      ap (λ n. l.task.limit * n) (arrival_takes_one y l ok admits),
    )

-- and the demand at every length: it is due a deadline from now, as the one that could arrive now was
pub arrived_demand : (now : ℕ) (l : LaneModel) (Δ : ℕ) → LaneFormed l → Admits l → demand now (arrived now l) Δ ≡ demand now l Δ
arrived_demand now l Δ ok admits =
    let pushed = due_by_push (now + Δ) l.pending (record { due = now + l.task.deadline; remaining = l.task.limit }) in
    elim (cases_lt Δ l.task.deadline) [
      | inl h ↦
          let x : suc Δ - l.task.deadline ≡ 0 = omega arith in
          rw (x, arrivals_at_none, arrivals_at_none)
          (omega (arith, cond-false (leb (now + l.task.deadline) (now + Δ)) l.task.limit 0 (lt-leb (now + l.task.deadline) (now + Δ) (omega arith))))
      | inr h ↦
          let x : suc Δ - l.task.deadline ≡ suc (Δ - l.task.deadline) = omega arith in
          rw x
          (omega (
            arith,
            cond-true (leb (now + l.task.deadline) (now + Δ)) l.task.limit 0 (le-leb (now + l.task.deadline) (now + Δ) (omega arith)),
            ap (λ n. l.task.limit * n) (arrival_takes_one (Δ - l.task.deadline) l ok admits),
          ))
    ]

-- a tick at which the task waits
pub waits_load : (l : LaneModel) (y : ℕ) → LaneFormed l → load (waits l) y ≤ load l (suc y)
waits_load l y ok = omega (arith, mul-le-mul_left l.task.limit (tick_allows y l.buckets (steps_above l ok)))

pub waits_demand : (now : ℕ) (l : LaneModel) (Δ : ℕ) → LaneFormed l → demand (suc now) (waits l) Δ ≤ demand now l (suc Δ)
waits_demand now l Δ ok =
    let t : suc now + Δ ≡ now + suc Δ = omega arith in
    rw t (omega (arith, mul-le-mul_left l.task.limit (tick_allows_by_deadline l.task.deadline Δ l.buckets (steps_above l ok))))

-- the oldest job has something left
pub first_left : (limit : ℕ) (j : Job) (js : List Job) → within_limit limit (j ∷ js) ≡ true → 1 ≤ j.remaining
first_left limit j js worked =
    let range = (and_parts (leb 1 j.remaining && leb j.remaining limit) (within_limit limit js) worked).0 in
    leb-true 1 j.remaining (and_parts (leb 1 j.remaining) (leb j.remaining limit) range).0

-- a tick at which the oldest job runs lowers the backlog
served_backlog : (said : Bool) (limit : ℕ) (js : List Job) → within_limit limit js ≡ true → none js ≡ false → backlog (oldest_served said js) + 1 ≤ backlog js
served_backlog said limit [] worked some = let z : ◌≡◌ {A = ℕ} 0 1 = cc in absurd (omega arith)
served_backlog said limit (j ∷ js) worked some =
    let left : 1 ≤ j.remaining = first_left limit j js worked in
    cond_both (said || eqb (j.remaining - 1) 0) js (record { due = j.due; remaining = j.remaining - 1 } ∷ js) (λ ks. backlog ks + 1 ≤ backlog (j ∷ js))
    (λ e. omega arith) (λ e. omega arith)

-- and what is due by t, if the oldest job is
served_due : (said : Bool) (t : ℕ) (j : Job) (js : List Job) → 1 ≤ j.remaining → j.due ≤ t → due_by t (oldest_served said (j ∷ js)) + 1 ≤ due_by t (j ∷ js)
served_due said t j js left h =
    let counts : leb j.due t ≡ true = le-leb j.due t h in
    let before = cond-true (leb j.due t) j.remaining 0 counts in
    let after = cond-true (leb j.due t) (j.remaining - 1) 0 counts in
    cond_both (said || eqb (j.remaining - 1) 0) js (record { due = j.due; remaining = j.remaining - 1 } ∷ js) (λ ks. due_by t ks + 1 ≤ due_by t (j ∷ js))
    (λ e. omega arith) (λ e. omega arith)

-- the dues of a queue in order, from the oldest job on
first_due : (low high : ℕ) (j : Job) (js : List Job) → in_order low high (j ∷ js) ≡ true → (low ≤ j.due) × (j.due ≤ high) × (in_order j.due high js ≡ true)
first_due low high j js ordered =
    let parts = and_parts (leb low j.due && leb j.due high) (in_order j.due high js) ordered in
    let range = and_parts (leb low j.due) (leb j.due high) parts.0 in
    (leb-true low j.due range.0, leb-true j.due high range.1, parts.1)

-- nothing is due before the oldest job is
none_due_before : (t low high : ℕ) (js : List Job) → in_order low high js ≡ true → t < low → due_by t js ≡ 0
none_due_before t low high [] ordered h = refl
none_due_before t low high (j ∷ js) ordered h =
    let first = first_due low high j js ordered in
    let later = cond-false (leb j.due t) j.remaining 0 (lt-leb j.due t (omega arith)) in
    omega (arith, none_due_before t j.due high js first.2 (omega arith))

served_none_due : (said : Bool) (t high : ℕ) (j : Job) (js : List Job) → in_order j.due high js ≡ true → t < j.due → due_by t (oldest_served said (j ∷ js)) ≡ 0
served_none_due said t high j js ordered h =
    let later = cond-false (leb j.due t) (j.remaining - 1) 0 (lt-leb j.due t h) in
    let rest = none_due_before t j.due high js ordered h in
    cond_both (said || eqb (j.remaining - 1) 0) js (record { due = j.due; remaining = j.remaining - 1 } ∷ js) (λ ks. due_by t ks ≡ 0)
    (λ e. rest) (λ e. omega arith)

-- the lane with these jobs pending
abbrev holding : LaneModel → List Job → LaneModel
holding l js = record { task = l.task; buckets = l.buckets; pending = js }

-- Where there is still demand within Δ, the oldest job was due by then: it is due no later than the others and than one that arrives now.
served_demand : (said : Bool) (now : ℕ) (l : LaneModel) (js : List Job) (Δ : ℕ) → LaneFormed l
    → within_limit l.task.limit js ≡ true → in_order 0 (now + l.task.deadline) js ≡ true → none js ≡ false
    → 0 < demand (suc now) (aged l (oldest_served said js)) Δ → demand (suc now) (aged l (oldest_served said js)) Δ + 1 ≤ demand now (holding l js) (suc Δ)
served_demand said now l [] Δ ok worked ordered some h = let z : ◌≡◌ {A = ℕ} 0 1 = cc in absurd (omega arith)
served_demand said now l (j ∷ js) Δ ok worked ordered some h =
    let t : suc now + Δ ≡ now + suc Δ = omega arith in
    let first = first_due 0 (now + l.task.deadline) j js ordered in
    elim (cases_lt (now + suc Δ) j.due) [
      | inl early ↦
          let pending : due_by (suc now + Δ) (oldest_served said (j ∷ js)) ≡ 0 =
          rw t (served_none_due said (now + suc Δ) (now + l.task.deadline) j js first.2 early) in
          let x : suc Δ - l.task.deadline ≡ 0 = omega arith in
          let coming : l.task.limit * arrivals_within (suc Δ - l.task.deadline) (map (bucket_after Tick) l.buckets) ≡ 0 = rw (x, arrivals_at_none, mul-zero) in
          absurd (omega arith)
      | inr counted ↦
          rw t
          (omega (
            arith,
            mul-le-mul_left l.task.limit (tick_allows_by_deadline l.task.deadline Δ l.buckets (steps_above l ok)),
            served_due said (now + suc Δ) j js (first_left l.task.limit j js worked) counted,
          ))
    ]

-- a tick at which the task runs
pub runs_load : (said : Bool) (l : LaneModel) (y : ℕ) → LaneFormed l → HasPending l → load (runs said l) y + 1 ≤ load l (suc y)
runs_load said l y ok some =
    omega (arith, served_backlog said l.task.limit l.pending ok.worked some, mul-le-mul_left l.task.limit (tick_allows y l.buckets (steps_above l ok)))

pub runs_demand : (said : Bool) (now : ℕ) (l : LaneModel) (Δ : ℕ) → LaneFormed l → DuesInOrder now l → HasPending l
    → 0 < demand (suc now) (runs said l) Δ → demand (suc now) (runs said l) Δ + 1 ≤ demand now l (suc Δ)
runs_demand said now l Δ ok ordered some = served_demand said now l l.pending Δ ok ok.worked ordered some
