-- How a table is read, line by line.
use Rattle.std.specs.Prelude.{ℕ, zero, suc, ◌+◌, cond, List, [], ◌∷◌, length, nat_lt}
use Rattle.tasks.specs.Reply.{Refusal, Reply, plain, refused, served, then}
use Rattle.tasks.specs.Task.{TaskModel}
use Rattle.text.specs.Bytes.{place}
use Rattle.text.specs.Line.{line_entered}

-- a refusal inside that of a larger part, which puts its own place before the values
abbrev pub at_place : ℕ → Refusal → Refusal
at_place p r = record { number = r.number; values = p ∷ r.values }

-- a reply whose refusal gets the place of the larger part
abbrev pub placed_at : {A : Type 0} → ℕ → Reply A → Reply A
placed_at p (served a) = served a
placed_at p (refused r) = refused (at_place p r)

-- the lines that are left, of which the first has this number, entered behind these tasks. A line's refusal gets its first byte
-- in the text, and then its number. Each line has a byte at least, so as many turns as there are bytes are enough, and the case
-- of no turns with bytes left is never reached
abbrev pub lines : ℕ → ℕ → List TaskModel → List ℕ → List ℕ → Reply (List TaskModel)
lines turns number ts text [] = served ts
lines zero number ts text (b ∷ bs) = refused (plain 17)
lines (suc turns) number ts text (b ∷ bs) =
    then (placed_at number (placed_at (place text (b ∷ bs)) (line_entered ts (b ∷ bs)))) (λ e. lines turns (number + 1) e.0 text e.1)

-- a text of more than 4,096 bytes is refused before anything else
abbrev pub unless_long : {A : Type 0} → List ℕ → Reply A → Reply A
unless_long text read = cond (nat_lt 4096 (length text)) (refused (plain 17)) read

-- the tasks of a table
unfoldable pub reading : List ℕ → Reply (List TaskModel)
reading text = unless_long text (lines (length text) 1 [] text text)

-- the draft after a table was read into it: the tasks read, or what it held
abbrev pub read_after : List TaskModel → Reply (List TaskModel) → List TaskModel
read_after held (served ts) = ts
read_after held (refused r) = held
