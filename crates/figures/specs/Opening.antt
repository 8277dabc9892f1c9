-- Figures of opening a gate, as one list: tasks, a rule, and what opening on these tasks at the reading 0 answers under that rule.
use Rattle.std.specs.Prelude.{◌≡◌, ℕ, List, [], ◌∷◌}
use Rattle.std.specs.List.{AllByRecursion}
use Rattle.fit.specs.Exact.{exact}
use Rattle.fit.specs.Fixed.{fixed}
use Rattle.fit.specs.Line.{line}
use Rattle.fit.specs.State.{StateModel}
use Rattle.gate.specs.Opening.{open_answer}
use Rattle.gate.specs.OpenRefusal.{open_refusal}
use Rattle.gate.specs.declared.refusal.OpenRefusal.TheVariants.{Misfit, NothingAllowed}
use Rattle.tasks.specs.Reply.{Reply, refused, served}
use Rattle.tasks.specs.Task.{TaskModel}

-- an allowance rule of the library
pub data Rule : Type 0 where
  exact_rule : Rule
  line_rule : Rule
  fixed_rule : Rule

-- what it means
abbrev pub meaning_of : Rule → StateModel → ℕ
meaning_of exact_rule = exact
meaning_of line_rule = line
meaning_of fixed_rule = fixed

-- a case with its answer
pub record Figure : Type 0 where
  pub tasks : List TaskModel
  pub rule : Rule
  pub answer : Reply ℕ

-- a task with the one staircase 1/step: at most one arrival in any `step` instants
abbrev pub task_each : ℕ → ℕ → ℕ → TaskModel
task_each limit deadline step = record { limit = limit; deadline = deadline; staircases = record { burst = 1; step = step } ∷ [] }

-- a light task, whose allowance is the same under each rule
abbrev pub light : List TaskModel
light = task_each 2 5 10 ∷ []

-- a task that takes fifteen sixteenths of the processor, with this deadline
abbrev pub heavy : ℕ → List TaskModel
heavy deadline = task_each 15 deadline 16 ∷ []

-- the list
abbrev pub figures : List Figure
figures =
    record { tasks = light; rule = exact_rule; answer = served 3 }
    ∷ record { tasks = light; rule = line_rule; answer = served 3 }
    ∷ record { tasks = light; rule = fixed_rule; answer = served 3 }
    -- with a shorter deadline there is room for one tick of background work, then for none, then not for the task itself
    ∷ record { tasks = heavy 16; rule = exact_rule; answer = served 1 }
    ∷ record { tasks = heavy 15; rule = exact_rule; answer = refused (open_refusal NothingAllowed) }
    ∷ record { tasks = heavy 14; rule = exact_rule; answer = refused (open_refusal (Misfit 1)) }
    ∷ []

-- each figure is what the definition of opening answers
abbrev pub OpeningFiguresHold : Type 0
OpeningFiguresHold = AllByRecursion (λ f. open_answer (meaning_of f.rule) 0 f.tasks ≡ f.answer) figures
