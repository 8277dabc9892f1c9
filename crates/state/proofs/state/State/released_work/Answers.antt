use Rattle.std.proofs.Common.{◌≡◌, ◌<◌, sum_by, ap, ◌∙◌, arith, rules}
use Rattle.std.proofs.iter.runs.Made.{chains}
use Rattle.bounded.specs.List.{items}
use Rattle.fit.specs.State.{work_of}
use Rattle.lanes.specs.declared.released.Released.{Released}
use Rattle.state.proofs.Costs.{released_work-le, sum_by_work}
use Rattle.state.proofs.state.State.released_work.Goals as goal

pub sum-requires-clause-fits : goal.sum-requires-clause-fits
sum-requires-clause-fits c =
    let jobs = c.released.result.now in
    let fits : sum_by (λ (j : Released). j.remaining) jobs < 18446744073709551616 = omega (arith, sum_by_work jobs, ap work_of c.released.ensures.value, released_work-le c.args.self.now) in
    search (rules, chains)

pub returns : goal.returns
returns c =
    let jobs = c.released.result.now in
    let found : c.sum.result ≡ sum_by (λ (j : Released). j.remaining) jobs = search (rules, chains) in
    let value : c.sum.result ≡ work_of (items c.args.self.now.released) = found ∙ sum_by_work jobs ∙ ap work_of c.released.ensures.value in
    record { value = value; bound = omega (arith, value, released_work-le c.args.self.now) }
