-- The rule keeps the laws: an idle processor has all of its fresh allowance left.
use Rattle.std.specs.Prelude.{◌≡◌, ℕ, ◌+◌, ◌-◌, ◌≤◌, true, List, map, refl}
use Rattle.std.proofs.Common.{sym, ap, subst, ◌∙◌, arith}
use Rattle.std.proofs.lemmas.Bool.{and_from, and_parts, cond_both, cond-true}
use Rattle.fit.proofs.Allowances.{exact_bound, exact_most}
use Rattle.fit.proofs.Fresh.{fresh_idle}
use Rattle.fit.proofs.RuleLaws.{none_released}
use Rattle.fit.specs.Exact.{FitWith, exact, fresh_allowance_of}
use Rattle.fit.specs.Laws.{Laws}
use Rattle.fit.specs.Sound.{Sound}
use Rattle.fit.specs.WellFormed.{WellFormed}
use Rattle.fit.specs.State.{StateModel, fresh_state, idle, none, none_pending, released_work, state_tasks}
use Rattle.lanes.proofs.Fresh.{tasks_of_fresh}
use Rattle.lanes.specs.Lane.{fresh_lane}
use Rattle.tasks.specs.Task.{TaskModel}
use Rattle.when_idle.specs.WhenIdle.{when_idle}

-- all tasks of a sound idle state fit with the fresh allowance
idle_fits : (s : StateModel) → WellFormed s → Sound s → idle s ≡ true → FitWith s (fresh_allowance_of (state_tasks s))
idle_fits s formed sound e =
    let w0 : ℕ = fresh_allowance_of (state_tasks s) in
    let nothing : s.granted ≡ 0 = formed.settled e in
    let same : released_work s + w0 - s.granted ≡ w0 = omega (arith, none_released s.released (and_parts (none_pending s.lanes) (none s.released) e).1) in
    subst (FitWith s) same (sound.fit_rest (omega arith))

within : (s : StateModel) → WellFormed s → Sound s → when_idle s ≤ exact s
within s formed sound =
    cond_both (idle s) (fresh_allowance_of (state_tasks s)) 0 (λ w. w ≤ exact s)
    (λ e. exact_most s.clock (fresh_allowance_of (state_tasks s)) s.lanes (exact_bound 0 (map fresh_lane (state_tasks s))) (idle_fits s formed sound e))
    (λ e. omega arith)

-- the freshly opened state is idle
opened_idle : (reading : ℕ) (ts : List TaskModel) → idle (fresh_state reading ts) ≡ true
opened_idle reading ts = and_from (none_pending (map fresh_lane ts)) true (fresh_idle ts) refl

renewed : (s : StateModel) (reading : ℕ) → idle s ≡ true → when_idle (fresh_state reading (state_tasks s)) ≡ when_idle s
renewed s reading e =
    let fresh : StateModel = fresh_state reading (state_tasks s) in
    cond-true (idle fresh) (fresh_allowance_of (state_tasks fresh)) 0 (opened_idle reading (state_tasks s))
    ∙ ap fresh_allowance_of (tasks_of_fresh (state_tasks s))
    ∙ sym (cond-true (idle s) (fresh_allowance_of (state_tasks s)) 0 e)

pub when_idle_laws : Laws when_idle
when_idle_laws =
    record { within = within; renewed = λ s reading h formed sound e. omega (arith, renewed s reading e) }
