use Rattle.std.proofs.Common.{◌≡◌, [], map, take}
use Rattle.tasks.specs.Task.{task_of}
use Rattle.text.specs.Views.{added, text_of}
use Rattle.text.specs.Writing.{table_text}
use Rattle.text.proofs.table_text.TableText.new.Given as goal

abbrev pub invariant-loop-task : goal.invariant-loop-task
invariant-loop-task l = text_of l.text ≡ added [] (table_text (map task_of (take l.task-index l.task-items)))
