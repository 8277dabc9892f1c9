-- The searches for an allowance go far enough: what they find is the greatest amount with which every task fits, or passes, at every length.
use Rattle.std.proofs.Common.{◌≡◌, ℕ, suc, ◌+◌, ◌-◌, ◌*◌, ◌<◌, ◌≤◌, ◌↔◌, List, [], Decides, refl, zero-add, arith}
use Rattle.std.proofs.lemmas.Bool.Decides.{Decides-like}
use Rattle.std.specs.List.{AllByRecursion}
use Rattle.fit.proofs.Conversions.{all_fit_below, all_fit_weigh, all_fit_weigh_below, all_fit_with_less, scaled_load}
use Rattle.fit.proofs.Conversions.{all_pass_below, all_pass_weigh, all_pass_weigh_below, all_pass_with_less, flat_rises}
use Rattle.fit.proofs.Decisions.{AllFitBelow, AllPassBelow, decides_all_fit_to, decides_all_pass_to}
use Rattle.fit.proofs.Greatests.{greatest_bound, greatest_most, greatest_of, greatest_unique}
use Rattle.fit.proofs.Horizons.{Rated, far_weigh, horizon_is_far}
use Rattle.fit.proofs.Rates.{line_load_rate, load_rate}
use Rattle.fit.specs.Weighing.{AllWeigh, AllWeighBelow}
use Rattle.fit.specs.Decided.{HorizonDecides}
use Rattle.fit.specs.Exact.{ExactlyFits, exact_allowance}
use Rattle.fit.specs.Fit.{AllFit}
use Rattle.tasks.specs.TaskSet.{peak_of_tasks, shares}
use Rattle.fit.specs.Horizon.{horizon}
use Rattle.lanes.specs.Standing.{standing}
use Rattle.lanes.specs.Lane.{LaneModel, tasks_of}
use Rattle.fit.specs.Line.{AllPass, LinePasses, all_pass_to, line_allowance}
use Rattle.lanes.specs.Line.{line_load}
use Rattle.fit.specs.Search.{all_fit_to}
use Rattle.fit.specs.WellFormed.{LaneFormed}

-- a search up to the horizon looks at the lengths below the one after it
past_horizon : (a p S : ℕ) → 1024 * (1024 + a) ≤ 16 * (p + 1024) * (1024 - S) → 1024 * (1024 + (0 + a)) ≤ suc (16 * (1024 + p)) * (1024 - (0 + S))
past_horizon a p S far = rw (zero-add S) (omega arith)

-- to weigh the tasks up to the horizon is to weigh them at every length
weigh_to_horizon : (ld : LaneModel → ℕ → ℕ) → Rated ld → (now w : ℕ) (ls : List LaneModel) → AllByRecursion LaneFormed ls → shares (tasks_of ls) ≤ 960 → w ≤ 1024
    → AllWeighBelow ld (suc (horizon (tasks_of ls))) now w (λ y. 0) ls → AllWeigh ld now w (λ y. 0) ls
weigh_to_horizon ld rated now w ls ok light hw =
    far_weigh ld rated (suc (horizon (tasks_of ls))) now 1024 w (λ y. 0) [] ls hw ok (λ y. omega arith)
    (past_horizon (standing ls) (peak_of_tasks (tasks_of ls)) (shares (tasks_of ls)) (horizon_is_far 1024 ls light ok))

-- the same for fit, and for passing
fit_to_horizon : (now w : ℕ) (ls : List LaneModel) → AllByRecursion LaneFormed ls → shares (tasks_of ls) ≤ 960 → w ≤ 1024
    → AllFitBelow (suc (horizon (tasks_of ls))) now w (λ y. 0) ls → AllFit now w (λ y. 0) ls
fit_to_horizon now w ls ok light hw fit =
    (all_fit_weigh now w (λ y. 0) (λ y. 0) ls (λ y. refl)).1
    (weigh_to_horizon scaled_load load_rate now w ls ok light hw ((all_fit_weigh_below (suc (horizon (tasks_of ls))) now w (λ y. 0) (λ y. 0) ls (λ y. refl)).0 fit))

pass_to_horizon : (now w : ℕ) (ls : List LaneModel) → AllByRecursion LaneFormed ls → shares (tasks_of ls) ≤ 960 → w ≤ 1024
    → AllPassBelow (suc (horizon (tasks_of ls))) now w (λ y. 0) ls → AllPass now w (λ y. 0) ls
pass_to_horizon now w ls ok light hw pass =
    (all_pass_weigh 0 now w (λ y. 0) ls flat_rises (omega arith)).1
    (weigh_to_horizon line_load line_load_rate now w ls ok light hw
    ((all_pass_weigh_below 0 (suc (horizon (tasks_of ls))) now w (λ y. 0) ls flat_rises (omega arith)).0 pass))

-- so the tests up to the horizon decide
decides_fit : (now w : ℕ) (ls : List LaneModel) → AllByRecursion LaneFormed ls → shares (tasks_of ls) ≤ 960 → w ≤ 1024
    → Decides (all_fit_to (horizon (tasks_of ls)) now w (λ y. 0) ls) (AllFit now w (λ y. 0) ls)
decides_fit now w ls ok light hw =
    Decides-like (all_fit_to (horizon (tasks_of ls)) now w (λ y. 0) ls)
    (fit_to_horizon now w ls ok light hw) (all_fit_below (suc (horizon (tasks_of ls))) now w (λ y. 0) ls)
    (decides_all_fit_to (horizon (tasks_of ls)) now w (λ y. 0) ls)

decides_line : (now w : ℕ) (ls : List LaneModel) → AllByRecursion LaneFormed ls → shares (tasks_of ls) ≤ 960 → w ≤ 1024
    → Decides (all_pass_to (horizon (tasks_of ls)) now w (λ y. 0) ls) (AllPass now w (λ y. 0) ls)
decides_line now w ls ok light hw =
    Decides-like (all_pass_to (horizon (tasks_of ls)) now w (λ y. 0) ls)
    (pass_to_horizon now w ls ok light hw) (all_pass_below (suc (horizon (tasks_of ls))) now w (λ y. 0) ls)
    (decides_all_pass_to (horizon (tasks_of ls)) now w (λ y. 0) ls)

pub horizon_decides : HorizonDecides
horizon_decides = record { fit = decides_fit; line = decides_line }

-- the exact allowance is the greatest amount with which every task fits
pub exact_fits : (now : ℕ) (ls : List LaneModel) → AllByRecursion LaneFormed ls → shares (tasks_of ls) ≤ 960 → ExactlyFits now ls (exact_allowance now ls)
unfolding exact_allowance
exact_fits now ls ok light =
    greatest_of (λ w. all_fit_to (horizon (tasks_of ls)) now w (λ y. 0) ls) (λ w. AllFit now w (λ y. 0) ls)
    (λ w hw. decides_fit now w ls ok light hw)
    (λ v w h. all_fit_with_less now v w (λ y. 0) ls h)

-- the line allowance is the greatest amount with which every task passes
pub line_passes : (now : ℕ) (ls : List LaneModel) → AllByRecursion LaneFormed ls → shares (tasks_of ls) ≤ 960 → LinePasses now ls (line_allowance now ls)
unfolding line_allowance
line_passes now ls ok light =
    greatest_of (λ w. all_pass_to (horizon (tasks_of ls)) now w (λ y. 0) ls) (λ w. AllPass now w (λ y. 0) ls)
    (λ w hw. decides_line now w ls ok light hw)
    (λ v w h. all_pass_with_less now v w (λ y. 0) ls h)

pub exact_bound : (now : ℕ) (ls : List LaneModel) → exact_allowance now ls ≤ 1024
unfolding exact_allowance
exact_bound now ls = greatest_bound (λ w. all_fit_to (horizon (tasks_of ls)) now w (λ y. 0) ls) 1024

-- no amount with which every task fits is above the exact allowance, and none with which every task passes above the line allowance
pub exact_most : (now w : ℕ) (ls : List LaneModel) → w ≤ 1024 → AllFit now w (λ y. 0) ls → w ≤ exact_allowance now ls
unfolding exact_allowance
exact_most now w ls hw fit =
    greatest_most (λ w. all_fit_to (horizon (tasks_of ls)) now w (λ y. 0) ls) 1024 w hw
    ((decides_all_fit_to (horizon (tasks_of ls)) now w (λ y. 0) ls).1 (all_fit_below (suc (horizon (tasks_of ls))) now w (λ y. 0) ls fit))

pub line_most : (now w : ℕ) (ls : List LaneModel) → w ≤ 1024 → AllPass now w (λ y. 0) ls → w ≤ line_allowance now ls
unfolding line_allowance
line_most now w ls hw pass =
    greatest_most (λ w. all_pass_to (horizon (tasks_of ls)) now w (λ y. 0) ls) 1024 w hw
    ((decides_all_pass_to (horizon (tasks_of ls)) now w (λ y. 0) ls).1 (all_pass_below (suc (horizon (tasks_of ls))) now w (λ y. 0) ls pass))

-- an amount found by weighing is the allowance
pub exact_found : (now r : ℕ) (ls : List LaneModel) → AllByRecursion LaneFormed ls → shares (tasks_of ls) ≤ 960 → r ≤ 1024
    → ((w : ℕ) → 0 < w → (w ≤ r) ↔ ((w ≤ 1024) × AllWeigh scaled_load now w (λ y. 0) ls)) → r ≡ exact_allowance now ls
exact_found now r ls ok light top tells =
    greatest_unique (λ w. AllFit now w (λ y. 0) ls) (exact_allowance now ls) r (exact_fits now ls ok light) top
    (λ w h.
    let fit = all_fit_weigh now w (λ y. 0) (λ y. 0) ls (λ y. refl) in
    ((λ le. let q = (tells w h).0 le in (q.0, fit.1 q.1)), (λ q. (tells w h).1 (q.0, fit.0 q.1))))

pub line_found : (now r : ℕ) (ls : List LaneModel) → AllByRecursion LaneFormed ls → shares (tasks_of ls) ≤ 960 → r ≤ 1024
    → ((w : ℕ) → 0 < w → (w ≤ r) ↔ ((w ≤ 1024) × AllWeigh line_load now w (λ y. 0) ls)) → r ≡ line_allowance now ls
line_found now r ls ok light top tells =
    greatest_unique (λ w. AllPass now w (λ y. 0) ls) (line_allowance now ls) r (line_passes now ls ok light) top
    (λ w h.
    let pass = all_pass_weigh 0 now w (λ y. 0) ls flat_rises (omega arith) in
    ((λ le. let q = (tells w h).0 le in (q.0, pass.1 q.1)), (λ q. (tells w h).1 (q.0, pass.0 q.1))))
