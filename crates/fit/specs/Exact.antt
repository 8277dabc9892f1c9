-- The exact allowance: the greatest amount from 0 to 1024 with which every task fits, or 0 if there is none.
use Rattle.std.specs.Prelude.{ℕ, List}
use Rattle.tasks.specs.Task.{TaskModel}
use Rattle.fit.specs.Fit.{AllFit}
use Rattle.fit.specs.Horizon.{horizon}
use Rattle.lanes.specs.Lane.{LaneModel, tasks_of}
use Rattle.fit.specs.Search.{all_fit_to}
use Rattle.fit.specs.Greatest.{Greatest, greatest}
use Rattle.fit.specs.State.{StateModel, fresh_state}

-- by search over the lengths up to the horizon, above which none decides
unfoldable pub exact_allowance : ℕ → List LaneModel → ℕ
exact_allowance now ls = greatest (λ w. all_fit_to (horizon (tasks_of ls)) now w (λ y. 0) ls) 1024

-- the same in the words of fit, without a bound on the lengths
abbrev pub ExactlyFits : ℕ → List LaneModel → ℕ → Type 0
ExactlyFits now ls r = Greatest (λ w. AllFit now w (λ y. 0) ls) r

-- every task of a state fits with w
abbrev pub FitWith : StateModel → ℕ → Type 0
FitWith s w = AllFit s.clock w (λ y. 0) s.lanes

-- the exact allowance of a state
abbrev pub exact : StateModel → ℕ
exact s = exact_allowance s.clock s.lanes

-- w0: the exact allowance of the state freshly opened on the same tasks; it is the same at every reading of the clock
abbrev pub fresh_allowance_of : List TaskModel → ℕ
fresh_allowance_of ts = exact (fresh_state 0 ts)
