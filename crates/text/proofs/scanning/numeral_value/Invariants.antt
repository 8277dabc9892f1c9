use Rattle.std.proofs.Common.{◌≡◌, ◌≤◌, drop}
use Rattle.text.specs.Numeral.{number_after}
use Rattle.text.proofs.scanning.numeral_value.Given as goal

abbrev pub invariant-loop-digit : goal.invariant-loop-digit
invariant-loop-digit l =
    (number_after l.value (drop l.digit-index l.digits) ≡ number_after 0 l.digits) × (l.value ≤ 65535)
