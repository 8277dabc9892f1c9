-- A line: the word `task`, the execution limit, the deadline, one to four staircases and the line feed; and its entry.
use Rattle.std.specs.Prelude.{ℕ, zero, suc, cond, List, [], ◌∷◌, ◌++◌}
use Rattle.tasks.specs.Draft.{unless_full}
use Rattle.tasks.specs.Making.{making}
use Rattle.tasks.specs.Reply.{Refusal, Reply, refused, served, then}
use Rattle.tasks.specs.Task.{TaskModel}
use Rattle.text.specs.Bytes.{expect, expect_all, starts}
use Rattle.text.specs.Numeral.{field}
use Rattle.text.specs.Writing.{task_word}

-- a burst and a step
unfoldable pub staircase : List ℕ → List ℕ → Reply ((ℕ × ℕ) × List ℕ)
staircase line left = then (field 32 line left) (λ b. then (field 47 line b.1) (λ s. served ((b.0, s.0), s.1)))

-- behind these staircases, at most k more and the line feed
abbrev pub staircases_after : ℕ → List (ℕ × ℕ) → List ℕ → List ℕ → Reply (List (ℕ × ℕ) × List ℕ)
staircases_after zero ps line left = then (expect 10 line left) (λ rest. served (ps, rest))
staircases_after (suc k) ps line left =
    cond (starts 32 left)
    (then (staircase line left) (λ p. staircases_after k (ps ++ p.0 ∷ []) line p.1))
    (then (expect 10 line left) (λ rest. served (ps, rest)))

-- one to four staircases and the line feed
unfoldable pub staircases : List ℕ → List ℕ → Reply (List (ℕ × ℕ) × List ℕ)
staircases line left = then (staircase line left) (λ p. staircases_after 3 (p.0 ∷ []) line p.1)

-- the numbers of a line
pub record Numbers : Type 0 where
  pub limit : ℕ
  pub deadline : ℕ
  pub staircases : List (ℕ × ℕ)

-- reading a whole line, up to its line feed
unfoldable pub numbers : List ℕ → Reply (Numbers × List ℕ)
numbers line =
    then (expect_all task_word line line)
    (λ left. then (field 32 line left)
    (λ c. then (field 32 line c.1)
    (λ d. then (staircases line d.1)
    (λ ps. served (record { limit = c.0; deadline = d.0; staircases = ps.0 }, ps.1)))))

-- an entry's refusal inside that of the line
abbrev pub entry_fault : Refusal → Refusal
entry_fault r = record { number = 20; values = r.number ∷ r.values }

-- these tasks with the one that is served, and the bytes behind its line
abbrev pub entry_made : List TaskModel → Reply TaskModel → List ℕ → Reply (List TaskModel × List ℕ)
entry_made ts (served t) rest = served (ts ++ t ∷ [], rest)
entry_made ts (refused r) rest = refused (entry_fault r)

-- a whole line, entered behind these tasks: the tasks then, and the bytes behind the line
unfoldable pub line_entered : List TaskModel → List ℕ → Reply (List TaskModel × List ℕ)
line_entered ts line =
    then (numbers line) (λ e. entry_made ts (unless_full ts (making e.0.limit e.0.deadline e.0.staircases)) e.1)
