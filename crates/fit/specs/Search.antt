-- Decisions by search over the lengths up to a bound.
use Rattle.std.specs.Prelude.{ℕ, zero, suc, ◌+◌, ◌*◌, Bool, true, false, cond, ◌&&◌, ◌||◌, List, [], ◌∷◌, Some, None, Option, ◌==◌, nat_le}
use Rattle.lanes.specs.Demand.{demand, load}
use Rattle.lanes.specs.Lane.{LaneModel, tasks_of}
use Rattle.tasks.specs.TaskSet.{peak_work}

-- whether some number below n passes
abbrev pub some_below : (ℕ → Bool) → ℕ → Bool
some_below p zero = false
some_below p (suc n) = p n || some_below p n

-- whether every number below n passes
abbrev pub all_below : (ℕ → Bool) → ℕ → Bool
all_below p zero = true
all_below p (suc n) = p n && all_below p n

-- `Fits` at the lengths up to b
abbrev pub fits_to : ℕ → ℕ → (ℕ → ℕ) → (ℕ → ℕ) → Bool
fits_to b w d I = all_below (λ Δ. (d Δ == 0) || some_below (λ y. nat_le (w + d Δ + I y) y) (suc Δ)) (suc b)

-- `AllFit` at the lengths up to b
abbrev pub all_fit_to : ℕ → ℕ → ℕ → (ℕ → ℕ) → List LaneModel → Bool
all_fit_to b now w I [] = true
all_fit_to b now w I (l ∷ ls) = fits_to b w (demand now l) I && all_fit_to b now w (λ y. I y + load l y) ls

-- the number of the first task that does not fit with w at the lengths up to b, where the first of these has the number n and the
-- tasks before may ask I
abbrev pub misfit_to : ℕ → ℕ → ℕ → ℕ → (ℕ → ℕ) → List LaneModel → Option ℕ
misfit_to b n now w I [] = None
misfit_to b n now w I (l ∷ ls) = cond (fits_to b w (demand now l) I) (misfit_to b (n + 1) now w (λ y. I y + load l y) ls) (Some n)

-- The number, counted from 1, of the first task that does not fit with w, by search. No length above the bound decides: it is the horizon
-- for w = 0, and rises with the amount.
unfoldable pub first_misfit : ℕ → ℕ → List LaneModel → Option ℕ
first_misfit now w ls = misfit_to (16 * (peak_work (tasks_of ls) + w)) 1 now w (λ y. 0) ls
