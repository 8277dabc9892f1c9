-- When a task fits: every deadline of it holds, whatever arrives, with w ticks of background work ahead of it.
use Rattle.std.specs.Prelude.{◌≡◌, ℕ, zero, suc, ◌+◌, ◌<◌, ◌≤◌, List, [], ◌∷◌, Some, None, Option}
use Rattle.lanes.specs.Demand.{demand, load}
use Rattle.lanes.specs.Lane.{LaneModel}

-- what the tasks of these lanes may ask together at the y instants that begin now: for a task behind them, their interference
abbrev pub ahead : List LaneModel → ℕ → ℕ
ahead [] y = 0
ahead (l ∷ ls) y = load l y + ahead ls y

-- A task with the demand d, behind tasks that may ask I: at each length Δ where there is demand, some length y up to Δ is enough.
-- It is enough where the w ticks, the demand and all that the tasks before may ask by then come to at most y. Δ has no upper end.
abbrev pub Fits : ℕ → (ℕ → ℕ) → (ℕ → ℕ) → Type 0
Fits w d I = (Δ : ℕ) → 0 < d Δ → (y : ℕ) × (y ≤ Δ) × (w + d Δ + I y ≤ y)

-- the task of the lane l fits with w behind the tasks of the lanes `before`
abbrev pub FitsBehind : ℕ → ℕ → List LaneModel → LaneModel → Type 0
FitsBehind now w before l = Fits w (demand now l) (ahead before)

-- every task of these lanes fits with w; I is what the tasks before them may ask
abbrev pub AllFit : ℕ → ℕ → (ℕ → ℕ) → List LaneModel → Type 0
AllFit now w I [] = Unit {0}
AllFit now w I (l ∷ ls) = Fits w (demand now l) I × AllFit now w (λ y. I y + load l y) ls

-- the first task that does not fit has k tasks before it in this list
abbrev pub MisfitAfter : ℕ → ℕ → (ℕ → ℕ) → ℕ → List LaneModel → Type 0
MisfitAfter now w I k [] = ⊥
MisfitAfter now w I zero (l ∷ ls) = Fits w (demand now l) I → ⊥
MisfitAfter now w I (suc k) (l ∷ ls) = Fits w (demand now l) I × MisfitAfter now w (λ y. I y + load l y) k ls

-- what a search for the first task that does not fit with w has to find: its number, counted from 1, or none where all fit
abbrev pub FirstMisfit : ℕ → ℕ → List LaneModel → Option ℕ → Type 0
FirstMisfit now w ls None = AllFit now w (λ y. 0) ls
FirstMisfit now w ls (Some n) = (k : ℕ) × (n ≡ suc k) × MisfitAfter now w (λ y. 0) k ls
