-- The line allowance: in place of what a task may ask, a straight line above it, by the long staircase alone.
use Rattle.std.specs.Prelude.{ℕ, suc, ◌+◌, ◌*◌, ◌<◌, ◌≤◌, Bool, true, ◌&&◌, ◌||◌, List, [], ◌∷◌, ◌==◌, nat_le}
use Rattle.lanes.specs.Demand.{demand}
use Rattle.fit.specs.Horizon.{horizon}
use Rattle.lanes.specs.Lane.{LaneModel, tasks_of}
use Rattle.lanes.specs.Line.{line_load}
use Rattle.fit.specs.Search.{all_below}
use Rattle.fit.specs.Greatest.{Greatest, greatest}
use Rattle.fit.specs.State.{StateModel}

-- a task with the demand d passes with w behind tasks whose lines sum to A
abbrev pub Passes : ℕ → (ℕ → ℕ) → (ℕ → ℕ) → Type 0
Passes w d A = (Δ : ℕ) → 0 < d Δ → 1024 * (w + d Δ) + A Δ ≤ 1024 * Δ

-- every task of these lanes passes with w; A is the sum of the lines of the tasks before them
abbrev pub AllPass : ℕ → ℕ → (ℕ → ℕ) → List LaneModel → Type 0
AllPass now w A [] = Unit {0}
AllPass now w A (l ∷ ls) = Passes w (demand now l) A × AllPass now w (λ y. A y + line_load l y) ls

-- `Passes` at the lengths up to b
abbrev pub passes_to : ℕ → ℕ → (ℕ → ℕ) → (ℕ → ℕ) → Bool
passes_to b w d A = all_below (λ Δ. (d Δ == 0) || nat_le (1024 * (w + d Δ) + A Δ) (1024 * Δ)) (suc b)

-- `AllPass` at the lengths up to b
abbrev pub all_pass_to : ℕ → ℕ → ℕ → (ℕ → ℕ) → List LaneModel → Bool
all_pass_to b now w A [] = true
all_pass_to b now w A (l ∷ ls) = passes_to b w (demand now l) A && all_pass_to b now w (λ y. A y + line_load l y) ls

-- the greatest amount from 0 to 1024 with which every task passes, or 0 if there is none
unfoldable pub line_allowance : ℕ → List LaneModel → ℕ
line_allowance now ls = greatest (λ w. all_pass_to (horizon (tasks_of ls)) now w (λ y. 0) ls) 1024

-- the same without a bound on the lengths
abbrev pub LinePasses : ℕ → List LaneModel → ℕ → Type 0
LinePasses now ls r = Greatest (λ w. AllPass now w (λ y. 0) ls) r

-- the line allowance of a state
abbrev pub line : StateModel → ℕ
line s = line_allowance s.clock s.lanes
