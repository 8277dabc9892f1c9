-- Which events bring arrivals at these instants.
use Rattle.std.specs.Prelude.{ℕ, ◌-◌, max, List, [], ◌∷◌, ◌++◌, replicate}
use Rattle.arrivals.specs.declared.counter.Event.{Event}
use Rattle.arrivals.specs.declared.counter.Event.TheVariants.{Arrival, Tick}

-- ticks from the clock up to each instant, and an arrival there; an instant that has passed means now
abbrev pub scheduled : ℕ → List ℕ → List Event
scheduled clock [] = []
scheduled clock (t ∷ ts) = replicate (t - clock) Tick ++ (Arrival ∷ scheduled (max clock t) ts)
