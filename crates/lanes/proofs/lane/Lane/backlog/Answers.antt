use Rattle.std.proofs.Common.{◌≡◌, ◌<◌, sum_by, ap, ◌∙◌, arith, rules}
use Rattle.std.proofs.iter.runs.Made.{chains}
use Rattle.bounded.specs.List.{items}
use Rattle.lanes.specs.Job.{backlog}
use Rattle.lanes.specs.declared.job.Job.{Job}
use Rattle.lanes.proofs.Jobs.{lane_backlog-le, sum_by_backlog}
use Rattle.lanes.proofs.lane.Lane.backlog.Goals as goal

pub sum-requires-clause-fits : goal.sum-requires-clause-fits
sum-requires-clause-fits c =
    let jobs = c.pending.result.now in
    let fits : sum_by (λ (j : Job). j.remaining) jobs < 18446744073709551616 = omega (arith, sum_by_backlog jobs, ap backlog c.pending.ensures.value, lane_backlog-le c.args.self.now) in
    search (rules, chains)

pub returns : goal.returns
returns c =
    let jobs = c.pending.result.now in
    let found : c.sum.result ≡ sum_by (λ (j : Job). j.remaining) jobs = search (rules, chains) in
    let value : c.sum.result ≡ backlog (items c.args.self.now.pending) = found ∙ sum_by_backlog jobs ∙ ap backlog c.pending.ensures.value in
    record { value = value; bound = omega (arith, value, lane_backlog-le c.args.self.now) }
