-- Reading and writing undo each other.
use Rattle.std.specs.Prelude.{◌≡◌, ℕ, List}
use Rattle.tasks.specs.Reply.{served}
use Rattle.tasks.specs.Task.{TaskModel}
use Rattle.text.specs.Reading.{reading}
use Rattle.text.specs.Writing.{table_text}

-- what is written of these tasks reads back as them
abbrev pub ReadsBack : List TaskModel → Type 0
ReadsBack ts = reading (table_text ts) ≡ served ts

-- a text that reads is what is written of the tasks read
abbrev pub WrittenBack : List ℕ → Type 0
WrittenBack text = (ts : List TaskModel) → reading text ≡ served ts → table_text ts ≡ text
