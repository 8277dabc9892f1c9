use Rattle.std.proofs.Common.{◌≡◌, suc, ◌+◌, ◌-◌, ◌*◌, ap, ◌∙◌, mul-le-mul_right, arith}
use Rattle.arrivals.specs.Bucket.{arrivals_within, counters_of}
use Rattle.bounded.specs.List.{items}
use Rattle.lanes.specs.Job.{due_by}
use Rattle.lanes.proofs.lane.Lane.demand.Goals as goal

pub returns : goal.returns
returns c =
    let lane = c.args.self.now in
    let limit = lane.task.limit in
    let arrivals = c.arrivals_within-arrivals.result in
    let instants : c.saturating_sub-instants.result ≡ suc c.args.length - lane.task.deadline = omega (arith, c.saturating_sub-instants.ensures, c.from.ensures) in
    record {
      value =
          ap (λ work. work + limit * arrivals) c.due_within.ensures.value
          ∙ ap (λ n. due_by (c.args.clock + c.args.length) (items lane.pending) + limit * n)
          (c.arrivals_within-arrivals.ensures.value ∙ ap (λ x. arrivals_within x (counters_of lane.counters)) instants);
      bound =
          omega (arith, mul-le-mul_right arrivals lane.task.limit_below, c.arrivals_within-arrivals.ensures.bound, c.due_within.ensures.bound, instants, lane.task.deadline_above);
    }
