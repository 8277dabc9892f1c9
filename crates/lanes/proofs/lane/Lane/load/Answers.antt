use Rattle.std.proofs.Common.{◌+◌, ◌*◌, ap, ◌∙◌, mul-le-mul_right, arith}
use Rattle.lanes.specs.Job.{backlog}
use Rattle.bounded.specs.List.{items}
use Rattle.lanes.proofs.lane.Lane.load.Goals as goal

pub returns : goal.returns
returns c =
    let limit = c.args.self.now.task.limit in
    let arrivals = c.arrivals_within.result in
    record {
      value = ap (λ work. work + limit * arrivals) c.backlog.ensures.value ∙ ap (λ n. backlog (items c.args.self.now.pending) + limit * n) c.arrivals_within.ensures.value;
      bound = omega (arith, mul-le-mul_right arrivals c.args.self.now.task.limit_below, c.arrivals_within.ensures.bound, c.backlog.ensures.bound);
    }
