-- The quantities of an entry. They are numbered in the order in which an entry is looked through; the burst and the step of a
-- staircase have the staircase's number with them, counted from 1.
use Rattle.std.specs.Prelude.{ℕ, List, [], ◌∷◌}
use Rattle.tasks.specs.declared.refusal.Quantity.{Quantity}
use Rattle.tasks.specs.declared.refusal.Quantity.TheVariants.{Burst, Count, Deadline, Distance, Jitter, Limit, Period, Step}

-- what a quantity is called in the values of a refusal
abbrev pub quantity : Quantity → List ℕ
quantity Limit = 1 ∷ []
quantity Deadline = 2 ∷ []
quantity Period = 3 ∷ []
quantity Jitter = 4 ∷ []
quantity Distance = 5 ∷ []
quantity Count = 6 ∷ []
quantity (Burst k) = 7 ∷ k ∷ []
quantity (Step k) = 8 ∷ k ∷ []
