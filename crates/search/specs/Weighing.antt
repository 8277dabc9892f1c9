-- What the tasks before a task may ask together, and the amounts with which every task passes behind them, in 1024ths of a tick.
use Rattle.std.specs.Prelude.{◌≡◌, ℕ, ◌+◌, ◌<◌, ◌≤◌, ◌↔◌, List, [], ◌∷◌}
use Rattle.fit.specs.Weighing.{AllWeigh}
use Rattle.lanes.specs.Lane.{LaneModel}
use Rattle.search.specs.Ahead.{ahead_at}
use Rattle.search.specs.declared.ahead.Ahead.{Ahead}

-- what may be asked once the tasks of these lanes stand before, where A was asked already and each task adds its load
abbrev pub asked_after : (LaneModel → ℕ → ℕ) → (ℕ → ℕ) → List LaneModel → ℕ → ℕ
asked_after load A [] = A
asked_after load A (l ∷ ls) = asked_after load (λ y. A y + load l y) ls

-- it is what the tasks of these lanes may ask together
abbrev pub AsksFor : (LaneModel → ℕ → ℕ) → List LaneModel → Ahead → Type 0
AsksFor load ls a = (y : ℕ) → ahead_at a y ≡ asked_after load (λ z. 0) ls y

-- the amounts from 1 to 1024 with which every task passes are those up to r
abbrev pub WeighsUpTo : (LaneModel → ℕ → ℕ) → ℕ → List LaneModel → ℕ → Type 0
WeighsUpTo load now ls r = (w : ℕ) → 0 < w → (w ≤ r) ↔ ((w ≤ 1024) × AllWeigh load now w (λ y. 0) ls)
