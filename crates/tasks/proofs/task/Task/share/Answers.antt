use Rattle.std.proofs.Common.{◌≡◌, ◌*◌, ap, ◌∙◌, arith}
use Rattle.std.specs.Int.{div_ceil}
use Rattle.tasks.specs.Task.{share, share_of, task_of}
use Rattle.tasks.proofs.Ranges.{rounded_up, share-le}
use Rattle.tasks.proofs.task.Task.share.Goals as goal

pub returns : goal.returns
returns c =
    let task = c.args.self.now in
    let staircase = c.long_staircase-staircase.result in
    let value : c.div_ceil.result ≡ share (task_of task) =
    c.div_ceil.ensures ∙ ap (λ n. div_ceil n staircase.step) (omega arith) ∙ rounded_up (1024 * task.limit) staircase.step staircase.step_above
    ∙ ap (share_of task.limit) c.long_staircase-staircase.ensures.value in
    record { value = value; bound = omega (arith, value, share-le task) }
