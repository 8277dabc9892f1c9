-- A staircase bound on arrivals, by its two numbers.
use Rattle.std.specs.Prelude.{ℕ, ◌+◌, ◌-◌, ◌/◌, Bool, cond, ◌&&◌, ◌||◌, List, [], ◌∷◌, ◌==◌, nat_lt}
use Rattle.tasks.specs.Least.{least}
use Rattle.tasks.specs.declared.staircase.Staircase.{Staircase}

-- at most burst + floor(length / step) arrivals at the length + 1 instants of any window
pub record StaircaseModel : Type 0 where
  pub burst : ℕ
  pub step : ℕ

-- the numbers that a staircase holds
abbrev pub staircase_of : Staircase → StaircaseModel
staircase_of s = record { burst = s.burst; step = s.step }

-- how many arrivals a staircase allows at the length + 1 instants of a window
abbrev pub allowed_in : ℕ → StaircaseModel → ℕ
allowed_in length s = s.burst + length / s.step

-- how many jobs that must end within the deadline can be pending at once: the arrivals of the last `deadline` instants
abbrev pub pending_bound : ℕ → List StaircaseModel → ℕ
pending_bound deadline ss = least (allowed_in (deadline - 1)) ss

-- whether the first is the longer one: it has the larger step or, at equal steps, the smaller burst
abbrev pub longer : StaircaseModel → StaircaseModel → Bool
longer s t = nat_lt t.step s.step || (s.step == t.step && nat_lt s.burst t.burst)

-- the longest of s and those after it; among equals the first
abbrev pub longest : StaircaseModel → List StaircaseModel → StaircaseModel
longest s [] = s
longest s (t ∷ ts) = longest (cond (longer t s) t s) ts

-- the long staircase of a task; the empty list, which no task has, gives 0/1
abbrev pub long_staircase : List StaircaseModel → StaircaseModel
long_staircase [] = record { burst = 0; step = 1 }
long_staircase (s ∷ ss) = longest s ss

-- of things that each have a staircase: the one with the longest staircase of x and those after it; among equals the first
abbrev pub longest_by : {A : Type 0} → (A → StaircaseModel) → A → List A → A
longest_by staircase x [] = x
longest_by staircase x (y ∷ ys) = longest_by staircase (cond (longer (staircase y) (staircase x)) y x) ys

-- the one with the longest staircase; the empty list has none
abbrev pub longest_of : {A : Type 0} → A → (A → StaircaseModel) → List A → A
longest_of none staircase [] = none
longest_of none staircase (x ∷ xs) = longest_by staircase x xs

-- 0/1, which stands for the longest of no staircases; no task has none
abbrev pub no_staircase : StaircaseModel
no_staircase = record { burst = 0; step = 1 }
