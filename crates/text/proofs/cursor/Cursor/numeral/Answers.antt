use Rattle.std.proofs.Common.{◌<◌, length, drop, refl, sym, ap, ◌∙◌, arith}
use Rattle.std.proofs.lemmas.Grind.{common_steps}
use Rattle.std.proofs.lemmas.List.{drop-drop, length-drop}
use Rattle.text.specs.Numeral.{leading_digits}
use Rattle.tasks.specs.Reply.{served}
use Rattle.text.proofs.Digits.{numeral_served}
use Rattle.text.proofs.cursor.Cursor.numeral.Goals as goal

pub invariant_of-self : goal.invariant_of-self
invariant_of-self c =
    let cursor = c.args.self.now in
    record { within = omega (arith, c.leading_digits-digits.ensures.within, ap length c.left.ensures, length-drop cursor.at cursor.bytes.now, cursor.within) }

pub returns : goal.returns
returns c =
    let cursor = c.args.self.now in
    let digits = c.leading_digits-digits.result.now in
    let left = drop cursor.at cursor.bytes.now in
    let some : 0 < length digits = grind (arith, common_steps) in
    let read = numeral_served cursor.bytes.now left digits c.in_ok-value.value _ _ (c.leading_digits-digits.ensures.value ∙ ap leading_digits c.left.ensures) some c.in_ok-value.ensures in
    record { answer = ap (λ rest. served (c.in_ok-value.value, rest)) (sym (drop-drop (length digits) cursor.at cursor.bytes.now)) ∙ sym read; same = refl }
