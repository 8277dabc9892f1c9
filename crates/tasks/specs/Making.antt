-- From plain numbers to a task: what is looked at, in which order, and what is refused.
use Rattle.std.specs.Prelude.{ℕ, ◌+◌, ◌/◌, Bool, cond, ◌&&◌, List, [], ◌∷◌, map, length, Some, None, Option, nat_le}
use Rattle.tasks.specs.EntryRefusal.{entry_refusal}
use Rattle.tasks.specs.Reply.{Reply, refused, served}
use Rattle.tasks.specs.Staircase.{StaircaseModel, pending_bound}
use Rattle.tasks.specs.Task.{TaskModel}
use Rattle.tasks.specs.declared.refusal.EntryRefusal.TheVariants.{OutOfRange, TooManyPending}
use Rattle.tasks.specs.declared.refusal.Quantity.{Quantity}
use Rattle.tasks.specs.declared.refusal.Quantity.TheVariants.{Burst, Count, Deadline, Distance, Jitter, Limit, Period, Step}

-- from low to high, both included
abbrev pub in_range : ℕ → ℕ → ℕ → Bool
in_range low high n = nat_le low n && nat_le n high

-- the first quantity out of range, where this one is looked at before those that `rest` tells of
abbrev pub look : Quantity → Bool → Option Quantity → Option Quantity
look q ok rest = cond ok rest (Some q)

-- the first wrong number in the staircase with the number k, and then in those that `rest` tells of
abbrev pub wrong_number : ℕ → ℕ × ℕ → Option Quantity → Option Quantity
wrong_number k p rest = look (Burst k) (in_range 1 8 p.0) (look (Step k) (in_range 1 4096 p.1) rest)

-- the first wrong number in these staircases, the first of which has the number k
abbrev pub wrong_staircase : ℕ → List (ℕ × ℕ) → Option Quantity
wrong_staircase k [] = None
wrong_staircase k (p ∷ ps) = wrong_number k p (wrong_staircase (k + 1) ps)

-- limit and deadline are looked at before those that `rest` tells of
abbrev pub wrong_limits : ℕ → ℕ → Option Quantity → Option Quantity
wrong_limits limit deadline rest = look Limit (in_range 1 64 limit) (look Deadline (in_range 1 1024 deadline) rest)

-- the first wrong number of a task, whose staircases are pairs of burst and step
abbrev pub wrong_quantity : ℕ → ℕ → List (ℕ × ℕ) → Option Quantity
wrong_quantity limit deadline ps = wrong_limits limit deadline (look Count (in_range 1 4 (length ps)) (wrong_staircase 1 ps))

-- the first wrong number of a task that is given by period, jitter and least distance
abbrev pub wrong_period : ℕ → ℕ → ℕ → ℕ → ℕ → Option Quantity
wrong_period limit deadline period jitter distance =
    wrong_limits limit deadline
    (look Period (in_range 1 4096 period)
    (look Jitter (in_range 0 32768 jitter)
    (look Distance (in_range 1 4096 distance) None)))

-- refused for a quantity out of range, or else what comes after
abbrev pub unless_wrong : {A : Type 0} → Option Quantity → Reply A → Reply A
unless_wrong None after = after
unless_wrong (Some q) after = refused (entry_refusal (OutOfRange q))

-- refused where more than eight jobs of the task could be pending
abbrev pub unless_too_many : TaskModel → Reply TaskModel
unless_too_many t = cond (nat_le (pending_bound t.deadline t.staircases) 8) (served t) (refused (entry_refusal TooManyPending))

-- the staircase of a pair of burst and step
abbrev pub staircase_from : ℕ × ℕ → StaircaseModel
staircase_from p = record { burst = p.0; step = p.1 }

-- a task of these numbers
abbrev pub making : ℕ → ℕ → List (ℕ × ℕ) → Reply TaskModel
making limit deadline ps =
    unless_wrong (wrong_quantity limit deadline ps) (unless_too_many (record { limit = limit; deadline = deadline; staircases = map staircase_from ps }))

-- the pairs of burst and step that a period, a jitter and a least distance give
abbrev pub periodic_staircases : ℕ → ℕ → ℕ → List (ℕ × ℕ)
periodic_staircases period jitter distance = (1, distance) ∷ (jitter / period + 1, period) ∷ []

-- a task given by period, jitter and least distance: its own numbers are looked at first, then those of the staircases
abbrev pub making_periodic : ℕ → ℕ → ℕ → ℕ → ℕ → Reply TaskModel
making_periodic limit deadline period jitter distance =
    unless_wrong (wrong_period limit deadline period jitter distance) (making limit deadline (periodic_staircases period jitter distance))
