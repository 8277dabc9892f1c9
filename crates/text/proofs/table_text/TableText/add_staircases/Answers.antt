use Rattle.tasks.specs.Staircase.{staircase_of}
use Rattle.text.specs.Writing.{staircase_text}
use Rattle.text.proofs.Texts.{added_more}
use Rattle.text.proofs.table_text.TableText.add_staircases.Goals as goal

pub loop-staircase-preserved : goal.loop-staircase-preserved
loop-staircase-preserved c = added_more staircase_text staircase_of _ _ _ _ c.loop-staircase-test.true c.staircase-item.is c.loop-staircase.invariant c.add_staircase.ensures
