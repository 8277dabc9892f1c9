use Rattle.std.proofs.Common.{[], map, sym, ap, ◌∙◌, arith}
use Rattle.std.proofs.lemmas.List.{take_all}
use Rattle.tasks.specs.Task.{task_of}
use Rattle.text.specs.Writing.{line_text, table_text}
use Rattle.text.specs.Views.{added}
use Rattle.text.proofs.Lengths.{table_length}
use Rattle.text.proofs.Texts.{added_fits, added_more}
use Rattle.text.proofs.table_text.TableText.new.Goals as goal

pub loop-task-init : goal.loop-task-init
loop-task-init c = c.new.ensures ∙ sym (added_fits [] (omega arith))

pub loop-task-preserved : goal.loop-task-preserved
loop-task-preserved c = added_more line_text task_of _ _ _ _ c.loop-task-test.true c.task-item.is c.loop-task.invariant c.add_line.ensures

pub returns : goal.returns
returns c =
    let ts = c.tasks-task-items.result.now in
    let n = table_length ts in
    c.loop-task.invariant ∙ ap (λ us. added [] (table_text (map task_of us))) (take_all c.loop-task.task-index ts c.loop-task-test.false)
    ∙ added_fits (table_text (map task_of ts)) (omega (arith, c.tasks-task-items.ensures.bound)) ∙ ap table_text c.tasks-task-items.ensures.value
