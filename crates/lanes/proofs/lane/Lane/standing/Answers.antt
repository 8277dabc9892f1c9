use Rattle.std.proofs.Common.{◌+◌, ◌*◌, ap, ◌∙◌, mul-le-mul_right, arith}
use Rattle.lanes.specs.Job.{backlog}
use Rattle.bounded.specs.List.{items}
use Rattle.lanes.proofs.lane.Lane.standing.Goals as goal

pub returns : goal.returns
returns c =
    let limit = c.args.self.now.task.limit in
    let staircase = c.long_staircase.result in
    record {
      value = ap (λ work. work + limit * staircase.burst) c.backlog.ensures.value ∙ ap (λ s. backlog (items c.args.self.now.pending) + limit * s.burst) c.long_staircase.ensures.value;
      bound = omega (arith, mul-le-mul_right staircase.burst c.args.self.now.task.limit_below, staircase.burst_below, c.backlog.ensures.bound);
    }
