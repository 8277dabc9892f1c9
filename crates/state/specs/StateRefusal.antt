-- Why there is no state of some tasks at a reading, by number and values.
use Rattle.tasks.specs.Reply.{Refusal, plain}
use Rattle.state.specs.declared.refusal.StateRefusal.{StateRefusal}
use Rattle.state.specs.declared.refusal.StateRefusal.TheVariants.{ReadingTooLate, SharesTooLarge}

-- 5, the reading is past the last one; 6, the shares are too large
abbrev pub state_refusal : StateRefusal → Refusal
state_refusal ReadingTooLate = plain 5
state_refusal SharesTooLarge = plain 6
