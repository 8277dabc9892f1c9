-- The clock of a monitor.
use Rattle.std.specs.Prelude.{ℕ}

-- the last reading: a clock that shows it does not move on
abbrev pub last_reading : ℕ
last_reading = 1000000000000000
