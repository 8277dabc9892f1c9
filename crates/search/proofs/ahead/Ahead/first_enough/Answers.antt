use Rattle.std.proofs.Common.{◌+◌, ◌*◌, ◌<◌, ◌≤◌, rules, tests}
use Rattle.std.proofs.lemmas.Iterator.{first_from_Range}
use Rattle.search.specs.Ahead.{ahead_at}
use Rattle.search.proofs.ahead.Ahead.first_enough.Goals as goal

pub returns : goal.returns
returns c =
    let A = ahead_at c.args.self.now in
    first_from_Range _ _ _ _ (λ y. 1024 * c.args.work + A y ≤ 1024 * y) (λ y. 1024 * y < 1024 * c.args.work + A y) c.find.ensures.ran (λ x q k. search (rules, tests)) (λ x q k. search (rules, tests))
