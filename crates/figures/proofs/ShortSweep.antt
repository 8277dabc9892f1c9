-- An allowance by a short sweep: where the amount that is left at the length b is small, b is far enough for it, and no later length decides.
use Rattle.std.proofs.Common.{◌≡◌, ℕ, ◌+◌, ◌-◌, ◌*◌, ◌<◌, ◌≤◌, ◌↔◌, List, [], zero-add, arith}
use Rattle.std.specs.List.{AllByRecursion}
use Rattle.fit.proofs.Allowances.{exact_found, line_found}
use Rattle.fit.proofs.Conversions.{scaled_load}
use Rattle.fit.proofs.Horizons.{Rated, far_weigh}
use Rattle.fit.proofs.Rates.{line_load_rate, load_rate}
use Rattle.fit.proofs.Sweeping.{margin_below, margin_top, sweep_finds}
use Rattle.fit.specs.Exact.{exact_allowance}
use Rattle.fit.specs.Line.{line_allowance}
use Rattle.fit.specs.Weighing.{AllWeigh}
use Rattle.fit.specs.WellFormed.{LaneFormed}
use Rattle.lanes.specs.Lane.{LaneModel, tasks_of}
use Rattle.lanes.specs.Line.{line_load}
use Rattle.lanes.specs.Standing.{standing}
use Rattle.tasks.specs.TaskSet.{shares}

-- the length b is far enough for the amount m: what is free of the processor until b is at least the amount and what stands
abbrev pub Far : ℕ → ℕ → List LaneModel → Type 0
Far b m ls = 1024 * (m + standing ls) ≤ b * (1024 - shares (tasks_of ls))

-- what a sweep of the lengths below b leaves, where ld is what one task adds for those behind it
abbrev pub swept : (LaneModel → ℕ → ℕ) → ℕ → ℕ → List LaneModel → ℕ
swept ld b now ls = margin_below ld now (λ y. 0) ls b

no_lane_before : (m a S b : ℕ) → 1024 * (m + a) ≤ b * (1024 - S) → 1024 * (m + (0 + a)) ≤ b * (1024 - (0 + S))
no_lane_before m a S b far = rw (zero-add S) (omega arith)

-- every task passes, at every length, exactly with the amounts that the sweep leaves
sweep_tells : (ld : LaneModel → ℕ → ℕ) → Rated ld → (b now : ℕ) (ls : List LaneModel) → AllByRecursion LaneFormed ls → Far b (swept ld b now ls) ls
    → (w : ℕ) → 0 < w → (w ≤ swept ld b now ls) ↔ ((w ≤ 1024) × AllWeigh ld now w (λ y. 0) ls)
sweep_tells ld rated b now ls ok far =
    sweep_finds ld now ls b
    (λ w left below. far_weigh ld rated b now (swept ld b now ls) w (λ y. 0) [] ls left ok (λ y. omega arith)
    (no_lane_before (swept ld b now ls) (standing ls) (shares (tasks_of ls)) b far) below)

-- so the sweep has found the exact allowance
pub exact_by_short_sweep : (b now : ℕ) (ls : List LaneModel) → AllByRecursion LaneFormed ls → shares (tasks_of ls) ≤ 960 → Far b (swept scaled_load b now ls) ls
    → swept scaled_load b now ls ≡ exact_allowance now ls
exact_by_short_sweep b now ls ok light far =
    exact_found now (swept scaled_load b now ls) ls ok light (margin_top scaled_load now (λ y. 0) ls b) (sweep_tells scaled_load load_rate b now ls ok far)

-- and by the lines the line allowance
pub line_by_short_sweep : (b now : ℕ) (ls : List LaneModel) → AllByRecursion LaneFormed ls → shares (tasks_of ls) ≤ 960 → Far b (swept line_load b now ls) ls
    → swept line_load b now ls ≡ line_allowance now ls
line_by_short_sweep b now ls ok light far =
    line_found now (swept line_load b now ls) ls ok light (margin_top line_load now (λ y. 0) ls b) (sweep_tells line_load line_load_rate b now ls ok far)
