-- What an allowance rule has to keep. Its meaning is a function from states to amounts: so it only reads, and equal states get equal answers.
use Rattle.std.specs.Prelude.{◌≡◌, ℕ, ◌≤◌, true}
use Rattle.arrivals.specs.Clock.{last_reading}
use Rattle.fit.specs.Exact.{exact}
use Rattle.fit.specs.Sound.{Sound}
use Rattle.fit.specs.WellFormed.{WellFormed}
use Rattle.fit.specs.State.{StateModel, fresh_state, idle, state_tasks}

-- the two laws of a rule with this meaning
pub record Laws (meaning : StateModel → ℕ) : Type 0 where
  -- on a sound state the answer is at most the exact allowance
  pub within : (s : StateModel) → WellFormed s → Sound s → meaning s ≤ exact s
  -- on a sound idle state it is at least the answer on the state freshly opened on the same tasks, at any reading
  pub renewed : (s : StateModel) (reading : ℕ) → reading ≤ last_reading → WellFormed s → Sound s → idle s ≡ true → meaning (fresh_state reading (state_tasks s)) ≤ meaning s
