-- What the tasks before a task may ask of the processor, in 1024ths of a tick.
use Rattle.std.specs.Prelude.{ℕ, ◌+◌, ◌*◌, ◌<◌, ◌≤◌, List, map, Option, MatchOption}
use Rattle.fit.specs.Fit.{ahead}
use Rattle.lanes.specs.Lane.{LaneModel, lane_of}
use Rattle.search.specs.declared.ahead.Ahead.{Ahead}

-- what the tasks of these lanes may ask by their staircases, and a line besides
abbrev pub asked_by : List LaneModel → ℕ → ℕ → ℕ → ℕ
asked_by before start share y = 1024 * ahead before y + (start + share * y)

-- what the tasks before may ask, as the code has them
abbrev pub ahead_at : Ahead → ℕ → ℕ
ahead_at a y = asked_by (map lane_of a.before.now) a.start a.share y

-- no length from `from` on is enough for this work before the end, where the tasks before may ask A
abbrev pub TooShort : ℕ → (ℕ → ℕ) → ℕ → ℕ → Type 0
TooShort work A from end = (y : ℕ) → from ≤ y → y < end → 1024 * y < 1024 * work + A y

-- the first length that is enough, of those from `from` to `to`
abbrev pub FirstEnough : ℕ → (ℕ → ℕ) → ℕ → ℕ → Option ℕ → Type 0
FirstEnough work A from to first =
    MatchOption first (TooShort work A from (to + 1)) (λ y. (from ≤ y) × (y < to + 1) × (1024 * work + A y ≤ 1024 * y) × TooShort work A from y)
