-- The text of a table, byte by byte: 32 is the space, 47 the slash and 10 the line feed.
use Rattle.std.specs.Prelude.{ℕ, cond, List, [], ◌∷◌, ◌++◌, length, drop, decimal, nat_le}
use Rattle.std.specs.List.{flat_map}
use Rattle.tasks.specs.Reply.{Reply, plain, refused, served}
use Rattle.tasks.specs.Staircase.{StaircaseModel}
use Rattle.tasks.specs.Task.{TaskModel}

-- a number behind the byte that parts it from what stands before it
abbrev pub field_text : ℕ → ℕ → List ℕ
field_text separator n = separator ∷ decimal n

-- a space, the burst, a slash and the step
abbrev pub staircase_text : StaircaseModel → List ℕ
staircase_text s = field_text 32 s.burst ++ field_text 47 s.step

-- the word `task`
abbrev pub task_word : List ℕ
task_word = 116 ∷ 97 ∷ 115 ∷ 107 ∷ []

-- a task's line with its line feed
unfoldable pub line_text : TaskModel → List ℕ
line_text t =
    task_word ++ (field_text 32 t.limit ++ (field_text 32 t.deadline ++ (flat_map staircase_text t.staircases ++ 10 ∷ [])))

-- the lines of the tasks, the one with the highest priority first
abbrev pub table_text : List TaskModel → List ℕ
table_text ts = flat_map line_text ts

-- what a writer answers: the length of the text, where the buffer has room for it
abbrev pub write_answer : List TaskModel → List ℕ → Reply ℕ
write_answer ts buffer = cond (nat_le (length (table_text ts)) (length buffer)) (served (length (table_text ts))) (refused (plain 21))

-- the buffer then: the text in front, or what it held
abbrev pub write_after : List TaskModel → List ℕ → List ℕ
write_after ts buffer =
    cond (nat_le (length (table_text ts)) (length buffer)) (table_text ts ++ drop (length (table_text ts)) buffer) buffer
