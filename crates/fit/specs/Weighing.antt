-- The exact and the line rule weigh a task in the same way, in 1024ths of a tick: at each length Δ where there is demand, some length y
-- up to Δ has to hold the amount, the demand and what the tasks before may ask. `load` is what one task adds for those behind it.
use Rattle.std.specs.Prelude.{ℕ, ◌+◌, ◌*◌, ◌<◌, ◌≤◌, List, [], ◌∷◌}
use Rattle.lanes.specs.Demand.{demand}
use Rattle.lanes.specs.Lane.{LaneModel}

-- a task with the demand d passes with w at the lengths below b, behind tasks that may ask A
abbrev pub WeighsBelow : ℕ → ℕ → (ℕ → ℕ) → (ℕ → ℕ) → Type 0
WeighsBelow b w d A = (Δ : ℕ) → Δ < b → 0 < d Δ → (y : ℕ) × (y ≤ Δ) × (1024 * (w + d Δ) + A y ≤ 1024 * y)

-- at every length
abbrev pub Weighs : ℕ → (ℕ → ℕ) → (ℕ → ℕ) → Type 0
Weighs w d A = (Δ : ℕ) → 0 < d Δ → (y : ℕ) × (y ≤ Δ) × (1024 * (w + d Δ) + A y ≤ 1024 * y)

-- every task of these lanes, at the lengths below b
abbrev pub AllWeighBelow : (LaneModel → ℕ → ℕ) → ℕ → ℕ → ℕ → (ℕ → ℕ) → List LaneModel → Type 0
AllWeighBelow load b now w A [] = Unit {0}
AllWeighBelow load b now w A (l ∷ ls) = WeighsBelow b w (demand now l) A × AllWeighBelow load b now w (λ y. A y + load l y) ls

-- every task of these lanes, at every length
abbrev pub AllWeigh : (LaneModel → ℕ → ℕ) → ℕ → ℕ → (ℕ → ℕ) → List LaneModel → Type 0
AllWeigh load now w A [] = Unit {0}
AllWeigh load now w A (l ∷ ls) = Weighs w (demand now l) A × AllWeigh load now w (λ y. A y + load l y) ls
