-- What a state of the code stands for.
use Rattle.std.specs.Prelude.{ℕ, cond, List, nat_lt}
use Rattle.arrivals.specs.Clock.{last_reading}
use Rattle.bounded.specs.List.{items}
use Rattle.fit.specs.State.{StateModel, fresh_state}
use Rattle.lanes.specs.Lanes.{lanes_of}
use Rattle.tasks.specs.Reply.{Reply, refused, served}
use Rattle.tasks.specs.Task.{TaskModel}
use Rattle.tasks.specs.TaskSet.{shares}
use Rattle.state.specs.StateRefusal.{state_refusal}
use Rattle.state.specs.declared.refusal.StateRefusal.TheVariants.{ReadingTooLate, SharesTooLarge}
use Rattle.state.specs.declared.state.State.{State}

-- what a state holds
abbrev pub state_of : State → StateModel
state_of s = record { clock = s.clock; lanes = lanes_of s.lanes; released = items s.released; granted = s.granted }

-- the state freshly opened; refused first where the reading is past the last one, and then where the tasks leave less than a sixteenth
-- of the processor free
abbrev pub opened : ℕ → List TaskModel → Reply StateModel
opened reading ts =
    cond (nat_lt last_reading reading) (refused (state_refusal ReadingTooLate))
    (cond (nat_lt 960 (shares ts)) (refused (state_refusal SharesTooLarge)) (served (fresh_state reading ts)))
