use Rattle.std.proofs.Common.{◌≡◌, take}
use Rattle.text.proofs.Lengths.{staircases_text}
use Rattle.text.specs.Views.{added, text_of}
use Rattle.text.proofs.table_text.TableText.add_staircases.Given as goal

abbrev pub invariant-loop-staircase : goal.invariant-loop-staircase
invariant-loop-staircase l = text_of l.self ≡ added (text_of l.initial.self) (staircases_text (take l.staircase-index l.staircases))
