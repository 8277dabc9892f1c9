-- What can still arrive, whatever happens.
use Rattle.std.specs.Prelude.{ℕ, ◌<◌, ◌≤◌, List}
use Rattle.arrivals.specs.Monitor.{MonitorModel}
use Rattle.arrivals.specs.Runs.{arrivals_taken, observations, ticks_served}
use Rattle.arrivals.specs.declared.counter.Event.{Event}

-- in every list of events that may follow, at most n arrivals are taken before the x-th tick
abbrev pub BoundsArrivals : MonitorModel → ℕ → ℕ → Type 0
BoundsArrivals m x n = (es : List Event) → ticks_served (observations m es) < x → arrivals_taken (observations m es) ≤ n
