use Rattle.std.proofs.Common.{rules}
use Rattle.std.proofs.Common.{◌≡◌, ◌<◌, ◌≤◌, false, ◌⊎◌, length, sym, ap, ◌∙◌, inl, inr, arith}
use Rattle.bounded.specs.List.{items}
use Rattle.std.proofs.lemmas.Grind.{common_steps}
use Rattle.std.proofs.lemmas.Result.{err_from_is_err_and}
use Rattle.text.specs.Bytes.{starts}
use Rattle.text.specs.Views.{bytes_of, left_of}
use Rattle.text.proofs.Staircases.{one_more, staircases_again, staircases_over, staircases_stop}
use Rattle.text.proofs.line.read_staircases.Goals as goal
use Rattle.text.proofs.line.read_staircases.Goals.{then-loop-cursor-test+else-sees, else-loop-cursor-test}

pub loop-cursor-preserved : goal.loop-cursor-preserved
loop-cursor-preserved c =
    let ps = items c.loop-cursor.pairs in
    let qs = items c.push-in-loop-cursor.new.self in
    let n = ap length c.as_slice.ensures.value in
    let fits : length ps < 4 = omega arith in
    let push = c.push-in-loop-cursor.ensures.after in
    let e = c.in_ok-read_staircase-2.ensures in
    let m = one_more ps qs c.in_ok-read_staircase-2.field-0 fits push in
    record {
      answer = staircases_again ps qs c.in_ok-read_staircase-2.field-0 fits push _ _ _ _ c.loop-cursor.invariant.same (sym c.sees.ensures ∙ c.if-sees.true) e.answer ∙ c.loop-cursor.invariant.answer;
      same = e.same ∙ c.loop-cursor.invariant.same;
      few = omega arith;
    }

pub returns-in_err-expect_byte : goal.returns-in_err-expect_byte
returns-in_err-expect_byte c =
    let ps = items c.loop-cursor.pairs in
    let left = left_of c.loop-cursor.cursor in
    let n = ap length c.as_slice.ensures.value in
    let over : (4 ≤ length ps) ⊎ (starts 32 left ≡ false)
    = elim c.loop-cursor-test.branch [
      | then-loop-cursor-test+else-sees w ↦ inr (sym w.sees.ensures ∙ w.if-sees.false)
      | else-loop-cursor-test w ↦ inl (omega arith)
    ] in
    let whole = staircases_over ps (bytes_of c.args.cursor.now) left over in
    grind (arith, common_steps)

pub returns : goal.returns
returns c = record { answer = search rules; same = search rules }

pub returns-in_err-read_staircase-2 : goal.returns-in_err-read_staircase-2
returns-in_err-read_staircase-2 c =
    let ps = items c.loop-cursor.pairs in
    let fits : length ps < 4 = omega (arith, ap length c.as_slice.ensures.value) in
    let j = c.loop-cursor.invariant in
    let e = c.in_err-read_staircase-2.ensures in
    let exit = err_from_is_err_and c.from_residual-in_err-read_staircase-2.result c.from_residual-in_err-read_staircase-2.ensures.1 in
    let stop = staircases_stop ps _ _ _ _ fits j.same (sym c.sees.ensures ∙ c.if-sees.true) e.answer in
    record { answer = rw (exit.1, exit.2) (sym stop ∙ j.answer); same = e.same ∙ j.same }
