use Rattle.std.proofs.Common.{◌+◌, ◌*◌, ap, mul-le-mul_right, arith}
use Rattle.tasks.specs.Staircase.{StaircaseModel}
use Rattle.tasks.proofs.task.Task.peak_work.Goals as goal

pub returns : goal.returns
returns c =
    let limit = c.args.self.now.limit in
    let staircase = c.long_staircase.result in
    record {
      value = ap (λ (s : StaircaseModel). limit * (8 + s.burst)) c.long_staircase.ensures.value;
      bound = omega (arith, mul-le-mul_right (8 + staircase.burst) c.args.self.now.limit_below, staircase.burst_below);
    }
