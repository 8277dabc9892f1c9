use Rattle.std.proofs.Common.{◌≡◌, ◌+◌, ◌<◌, cond, leb, sum_by, ap, ◌∙◌, arith, rules}
use Rattle.std.proofs.iter.runs.Made.{chains}
use Rattle.bounded.specs.List.{items}
use Rattle.lanes.specs.Job.{due_by}
use Rattle.lanes.specs.declared.job.Job.{Job}
use Rattle.lanes.proofs.Jobs.{due_by-le-backlog, lane_backlog-le, sum_by_due}
use Rattle.lanes.proofs.lane.Lane.due_within.Goals as goal

pub sum-requires-clause-fits : goal.sum-requires-clause-fits
sum-requires-clause-fits c =
    let jobs = c.pending.result.now in
    let t = c.args.clock + c.args.length in
    let fits : sum_by (λ (j : Job). cond (leb j.due t) j.remaining 0) jobs < 18446744073709551616 =
    omega (arith, sum_by_due t jobs, ap (due_by t) c.pending.ensures.value, due_by-le-backlog t (items c.args.self.now.pending), lane_backlog-le c.args.self.now) in
    search (rules, chains)

pub returns : goal.returns
returns c =
    let jobs = c.pending.result.now in
    let t = c.args.clock + c.args.length in
    let found : c.sum.result ≡ sum_by (λ (j : Job). cond (leb j.due t) j.remaining 0) jobs = search (rules, chains) in
    let value : c.sum.result ≡ due_by t (items c.args.self.now.pending) = found ∙ sum_by_due t jobs ∙ ap (due_by t) c.pending.ensures.value in
    record { value = value; bound = omega (arith, value, due_by-le-backlog t (items c.args.self.now.pending), lane_backlog-le c.args.self.now) }
