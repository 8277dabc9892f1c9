use Rattle.std.proofs.Common.{◌+◌, map, get_or, drop, ap, ◌∙◌}
use Rattle.std.proofs.lemmas.List.{at_drop_all, at_drop_more, take_all}
use Rattle.std.proofs.lemmas.Result.{err_from_is_err_and}
use Rattle.bounded.specs.List.{items}
use Rattle.tasks.specs.Making.{in_range, staircase_from, wrong_staircase}
use Rattle.tasks.specs.Reply.{served}
use Rattle.tasks.specs.Staircase.{staircase_of}
use Rattle.tasks.specs.declared.refusal.Quantity.TheVariants.{Burst, Step}
use Rattle.tasks.proofs.Entries.{right_then, wrong_then}
use Rattle.tasks.proofs.Lists.{filled_more}
use Rattle.tasks.proofs.making.make_staircases.Goals as goal

pub returns-in_err-staircase : goal.returns-in_err-staircase
returns-in_err-staircase c =
    let pairs = c.args.pairs.now in
    let i = c.loop-i.i in
    let pair = get_or pairs i (0, 0) in
    let rest = wrong_staircase (i + 1 + 1) (drop (i + 1) pairs) in
    let here = c.loop-i.invariant.0 ∙ at_drop_more (wrong_staircase (i + 1)) pairs i (0, 0) c.loop-i-test.true in
    let exit = err_from_is_err_and c.from_residual.result c.from_residual.ensures.1 in
    rw (exit.1, exit.2, here)
    (wrong_then (Burst (i + 1)) (Step (i + 1)) (in_range 1 8 pair.0) (in_range 1 4096 pair.1) _ (staircase_from pair) rest (served (map staircase_from pairs))
    c.in_err-staircase.ensures)

pub loop-i-preserved : goal.loop-i-preserved
loop-i-preserved c =
    let pairs = c.args.pairs.now in
    let i = c.loop-i.i in
    let pair = get_or pairs i (0, 0) in
    let rest = wrong_staircase (i + 1 + 1) (drop (i + 1) pairs) in
    let made = right_then (Burst (i + 1)) (Step (i + 1)) (in_range 1 8 pair.0) (in_range 1 4096 pair.1) _ (staircase_from pair) rest c.in_ok-staircase.ensures in (
      c.loop-i.invariant.0 ∙ at_drop_more (wrong_staircase (i + 1)) pairs i (0, 0) c.loop-i-test.true ∙ made.0,
      filled_more staircase_of staircase_from 4 (items c.loop-i.staircases) _ pairs i c.in_ok-staircase.staircase (0, 0) c.loop-i-test.true c.requires
          c.loop-i.invariant.1 c.push.ensures.after made.1,
    )

pub returns : goal.returns
returns c =
    let pairs = c.args.pairs.now in
    let i = c.loop-i.i in
    let none = c.loop-i.invariant.0 ∙ at_drop_all (wrong_staircase (i + 1)) pairs i c.loop-i-test.false in
    let all = c.loop-i.invariant.1 ∙ ap (map staircase_from) (take_all i pairs c.loop-i-test.false) in
    rw none (ap served all)
