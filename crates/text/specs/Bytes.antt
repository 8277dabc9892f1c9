-- Bytes that have to stand in a line. A part of a line is read from the bytes that are left, and gives a value with the bytes
-- behind it, or a refusal. `line` is what was left at the line's first byte.
use Rattle.std.specs.Prelude.{ℕ, ◌-◌, Bool, false, cond, List, [], ◌∷◌, length, drop, ◌==◌}
use Rattle.tasks.specs.Reply.{Refusal, Reply, refused, served, then}

-- how many of the bytes stand before those that are left
abbrev pub place : List ℕ → List ℕ → ℕ
place bytes left = length bytes - length left

-- a fault of the line at the first byte that is left
abbrev pub fault : ℕ → List ℕ → List ℕ → Refusal
fault number line left = record { number = number; values = place line left ∷ [] }

-- whether this byte comes first
abbrev pub starts : ℕ → List ℕ → Bool
starts b [] = false
starts b (x ∷ xs) = x == b

-- one byte that has to stand here
abbrev pub expect : ℕ → List ℕ → List ℕ → Reply (List ℕ)
expect b line left = cond (starts b left) (served (drop 1 left)) (refused (fault 18 line left))

-- some bytes that have to stand here
abbrev pub expect_all : List ℕ → List ℕ → List ℕ → Reply (List ℕ)
expect_all [] line left = served left
expect_all (b ∷ bs) line left = then (expect b line left) (expect_all bs line)
