-- The counter of one staircase.
use Rattle.std.specs.Prelude.{ℕ, ◌+◌, ◌-◌, Bool, true, cond, ◌&&◌, ◌==◌, nat_lt}
use Rattle.tasks.specs.Staircase.{StaircaseModel}
use Rattle.arrivals.specs.declared.counter.Counter.{Counter}
use Rattle.arrivals.specs.declared.counter.Counter.TheVariants.{Full, Short}
use Rattle.arrivals.specs.declared.counter.Event.{Event}
use Rattle.arrivals.specs.declared.counter.Event.TheVariants.{Arrival, Tick}

-- a counter keeps within its staircase: a short one has fewer tokens than the burst and is younger than the step
abbrev pub sound : StaircaseModel → Counter → Bool
sound s Full = true
sound s (Short t g) = nat_lt t s.burst && nat_lt g s.step

-- how many arrivals the staircase allows now
abbrev pub tokens : StaircaseModel → Counter → ℕ
tokens s Full = s.burst
tokens s (Short t g) = t

-- for how many ticks the counter has been gathering its next token; a full one gathers none
abbrev pub age : Counter → ℕ
age Full = 0
age (Short t g) = g

-- An arrival takes a token. A tick makes a short counter one older; at the age of a step it has gathered one more token and
-- begins anew, and once it has all the tokens of the burst it is full.
abbrev pub counter_after : StaircaseModel → Event → Counter → Counter
counter_after s Arrival Full = Short (s.burst - 1) 0
counter_after s Arrival (Short t g) = Short (t - 1) g
counter_after s Tick Full = Full
counter_after s Tick (Short t g) =
    cond (g + 1 == s.step) (cond (t + 1 == s.burst) Full (Short (t + 1) 0)) (Short t (g + 1))
