use Rattle.std.proofs.Common.{◌≡◌, ◌≤◌, map, length, sym, ap, ◌∙◌, arith, rules}
use Rattle.std.proofs.lemmas.List.{length-map}
use Rattle.bounded.specs.List.{items}
use Rattle.tasks.specs.Making.{staircase_from, wrong_staircase}
use Rattle.tasks.specs.Staircase.{staircase_of}
use Rattle.tasks.proofs.Entries.{served_is}
use Rattle.tasks.proofs.task.Task.new.Goals as goal

pub invariant_of-result-clause-bounded_arrivals : goal.invariant_of-result-clause-bounded_arrivals
invariant_of-result-clause-bounded_arrivals c =
    let pairs = c.args.staircases.now in
    let list = items c.in_ok-staircases.staircases in
    let same : map staircase_of list ≡ map staircase_from pairs = served_is (wrong_staircase 1 pairs) _ _ c.in_ok-staircases.ensures in
    let long : length list ≡ length pairs = sym (length-map list staircase_of) ∙ ap length same ∙ length-map pairs staircase_from in
    let some : 1 ≤ length pairs = search rules in
    omega arith
