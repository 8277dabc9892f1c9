use Rattle.std.proofs.Common.{◌≡◌, ℕ, zero, suc, ◌+◌, ◌-◌, ◌<◌, List, [], ◌∷◌, length, sym, ◌∙◌, sub-one, arith}
use Rattle.std.proofs.lemmas.Grind.{common_steps}
use Rattle.tasks.specs.Draft.{draft_of}
use Rattle.tasks.specs.Reply.{served}
use Rattle.tasks.specs.Task.{TaskModel}
use Rattle.text.specs.Line.{line_entered}
use Rattle.text.specs.Reading.{lines}
use Rattle.text.proofs.WrittenBack.{line_entered_shorter}
use Rattle.text.proofs.reader.read_lines.Goals as goal
use Rattle.text.proofs.reader.read_lines.Goals.{In_ok-rest}

-- a line that is entered takes one turn
one_line : (turns number : ℕ) (ts us : List TaskModel) (text left rest : List ℕ) → 0 < length left → 0 < turns
    → line_entered ts left ≡ served (us, rest) → lines turns number ts text left ≡ lines (turns - 1) (number + 1) us text rest
one_line turns number ts us text [] rest a b e = absurd (omega arith)
one_line zero number ts us text (x ∷ xs) rest a b e = absurd (omega arith)
one_line (suc turns) number ts us text (x ∷ xs) rest a b e = rw (e, sub-one)

-- the line of this turn
line : (c : In_ok-rest) → line_entered (draft_of c.loop-rest.draft) c.loop-rest.rest.now ≡ served (draft_of c.enter_line_at.new.draft, c.in_ok-rest.rest.now)
line c = grind (arith, common_steps)

pub loop-rest-smaller : goal.loop-rest-smaller
loop-rest-smaller c = line_entered_shorter _ _ _ (line (goal.at.loop-rest-smaller c).In_ok-rest)

pub loop-rest-preserved : goal.loop-rest-preserved
loop-rest-preserved c =
    let text = c.args.text.now in
    let j = c.loop-rest.invariant in
    let e = line (goal.at.loop-rest-preserved c).In_ok-rest in
    let some : 0 < length c.loop-rest.rest.now = grind (arith, common_steps) in
    let less = line_entered_shorter _ _ _ e in
    let turns : length text + 1 - (c.loop-rest.number + 1) ≡ length text + 1 - c.loop-rest.number - 1 = omega arith in
    record {
      answer = rw turns (sym (one_line (length text + 1 - c.loop-rest.number) c.loop-rest.number _ _ text _ _ some (omega arith) e) ∙ j.answer);
      counted = omega arith;
      within = omega arith;
    }
