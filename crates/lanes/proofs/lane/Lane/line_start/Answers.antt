use Rattle.std.proofs.Common.{◌≡◌, ◌+◌, ◌*◌, min, ap, ◌∙◌, mul-le-mul_right, arith}
use Rattle.arrivals.specs.Bucket.{bucket_of}
use Rattle.arrivals.specs.Counter.{age}
use Rattle.bounded.specs.List.{items}
use Rattle.lanes.specs.Job.{backlog}
use Rattle.lanes.specs.Lane.{lane_of}
use Rattle.lanes.specs.Line.{line_from}
use Rattle.tasks.specs.Task.{share, task_of}
use Rattle.lanes.proofs.lane.Lane.line_start.Goals as goal

pub returns : goal.returns
returns c =
    let lane = c.args.self.now in
    let limit = lane.task.limit in
    let b = bucket_of c.long_bucket-bucket.result in
    let gathered : c.min-gathered.result ≡ min (share (task_of lane.task) * age b.counter) (1024 * limit) =
    c.min-gathered.ensures ∙ ap (λ s. min (s * c.age.result) (1024 * limit)) c.share.ensures.value ∙ ap (λ g. min (share (task_of lane.task) * g) (1024 * limit)) c.age.ensures.value in
    record {
      value =
          ap (λ g. 1024 * (c.backlog.result + limit * c.tokens.result) + g) gathered
          ∙ ap (λ work. 1024 * (work + limit * c.tokens.result) + min (share (task_of lane.task) * age b.counter) (1024 * limit)) c.backlog.ensures.value
          ∙ ap (λ n. 1024 * (backlog (items lane.pending) + limit * n) + min (share (task_of lane.task) * age b.counter) (1024 * limit)) c.tokens.ensures.value
          ∙ ap (line_from (lane_of lane)) c.long_bucket-bucket.ensures;
      bound = omega (arith, mul-le-mul_right c.tokens.result lane.task.limit_below, c.tokens.ensures.bound, c.backlog.ensures.bound, c.min-gathered.ensures, lane.task.limit_below);
    }
