-- A task in its turn.
use Rattle.std.specs.Prelude.{ℕ, ◌<◌, ◌≤◌, ◌↔◌}
use Rattle.fit.specs.Weighing.{Weighs}
use Rattle.lanes.specs.Demand.{demand}
use Rattle.lanes.specs.Lane.{lane_of}
use Rattle.search.specs.Ahead.{ahead_at}
use Rattle.search.specs.declared.turn.Turn.{Turn}

-- the demand of the task
abbrev pub own_demand : Turn → ℕ → ℕ
own_demand t Δ = demand t.clock (lane_of t.lane.now) Δ

-- the amounts up to `most` with which the task passes at every length are those up to r; of 0 this says nothing
abbrev pub PassesUpTo : Turn → ℕ → ℕ → Type 0
PassesUpTo t most r = (w : ℕ) → 0 < w → (w ≤ r) ↔ ((w ≤ most) × Weighs w (own_demand t) (ahead_at t.ahead))
