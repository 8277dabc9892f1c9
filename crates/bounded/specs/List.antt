-- A bounded list as the plain list of its elements, and what a push makes of it.
use Rattle.std.specs.Prelude.{ℕ, cond, List, [], ◌∷◌, ◌++◌, length, take, nat_lt}
use Rattle.bounded.specs.declared.list.Bounded.{Bounded}

-- the elements, in their order
abbrev pub items : {T : Type 0} {n : ℕ} → Bounded T n → List T
items b = take b.len b.slots

-- the element at the end, where fewer than n stand
abbrev pub pushed : {T : Type 0} → ℕ → List T → T → List T
pushed n xs x = cond (nat_lt (length xs) n) (xs ++ x ∷ []) xs
