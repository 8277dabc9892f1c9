-- What the tasks of a front part of the lanes take together.
use Rattle.std.specs.Prelude.{ℕ, ◌+◌, ◌-◌, ◌*◌, ◌≤◌, Bool, List, [], ◌∷◌, nat_le}
use Rattle.lanes.specs.Lane.{LaneModel}
use Rattle.lanes.specs.Line.{line_start}
use Rattle.lanes.specs.Standing.{standing_of}
use Rattle.tasks.specs.Task.{share}
use Rattle.search.specs.declared.front.Front.{Front}

-- their shares, the work that stands, and where the lines above their loads begin
pub record FrontModel : Type 0 where
  pub shares : ℕ
  pub standing : ℕ
  pub start : ℕ

-- the numbers that a front holds
abbrev pub front_of : Front → FrontModel
front_of f = record { shares = f.shares; standing = f.standing; start = f.start }

-- of no lanes
abbrev pub empty_front : FrontModel
empty_front = record { shares = 0; standing = 0; start = 0 }

-- one lane more
abbrev pub with_lane : FrontModel → LaneModel → FrontModel
with_lane f l = record { shares = f.shares + share l.task; standing = f.standing + standing_of l; start = f.start + line_start l }

-- the lanes ls more
abbrev pub with_lanes : FrontModel → List LaneModel → FrontModel
with_lanes f [] = f
with_lanes f (l ∷ ls) = with_lanes (with_lane f l) ls

-- the bounds that a front keeps: those of eight tasks, which leave a sixteenth of the processor free
pub record Light (f : FrontModel) : Type 0 where
  pub shares : f.shares ≤ 960
  pub standing : f.standing ≤ 8192
  pub start : f.start ≤ 16777216

-- from the length Δ on each length is itself enough with every amount up to m, by the shares and the work of this front
abbrev pub suffices : FrontModel → ℕ → ℕ → Bool
suffices f Δ m = nat_le (1024 * (m + f.standing)) (Δ * (1024 - f.shares))
