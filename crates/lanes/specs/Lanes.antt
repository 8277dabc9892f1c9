-- The lanes of a whole task set, the one with the highest priority first.
use Rattle.std.specs.Prelude.{cond, List, map, Some, None, Option, nat_le}
use Rattle.bounded.specs.List.{items}
use Rattle.tasks.specs.Task.{TaskModel}
use Rattle.lanes.specs.Lane.{LaneModel, fresh_lane, lane_of}
use Rattle.tasks.specs.TaskSet.{shares}
use Rattle.lanes.specs.declared.lanes.Lanes.{Lanes}

-- what a set of lanes holds
abbrev pub lanes_of : Lanes → List LaneModel
lanes_of ls = map lane_of (items ls.lanes)

-- the same where there may be none
abbrev pub lanes_made : Option Lanes → Option (List LaneModel)
lanes_made None = None
lanes_made (Some ls) = Some (lanes_of ls)

-- the lanes of these tasks before any arrival, unless the tasks leave less than a sixteenth of the processor free
abbrev pub fresh_unless_heavy : List TaskModel → Option (List LaneModel)
fresh_unless_heavy ts = cond (nat_le (shares ts) 960) (Some (map fresh_lane ts)) None
