-- What every run of a gate keeps.
use Rattle.std.specs.Prelude.{◌+◌, ◌-◌, ◌≤◌}
use Rattle.fit.specs.Exact.{FitWith, fresh_allowance_of}
use Rattle.fit.specs.State.{StateModel, released_work, state_tasks}

-- the released work is at most 1024 and at most the cost granted, every task fits with it and, where the
-- cost granted is within the fresh allowance, also with what that leaves
pub record Sound (s : StateModel) : Type 0 where
  pub bounded : released_work s ≤ 1024
  pub granted : released_work s ≤ s.granted
  pub fit : FitWith s (released_work s)
  pub fit_rest : s.granted ≤ fresh_allowance_of (state_tasks s) → FitWith s (released_work s + fresh_allowance_of (state_tasks s) - s.granted)
