use Rattle.std.proofs.Common.{◌≡◌, map, sum_by, refl, ap, ◌∙◌, arith, rules}
use Rattle.std.proofs.iter.runs.Made.{chains}
use Rattle.tasks.specs.Task.{share, task_of}
use Rattle.tasks.specs.TaskSet.{shares}
use Rattle.tasks.proofs.Ranges.{share-le}
use Rattle.tasks.proofs.Sums.{sum_by_total, total-le}
use Rattle.tasks.proofs.draft.Draft.shares.Goals as goal

pub returns : goal.returns
returns c =
    let tasks = c.tasks.result.now in
    let found : c.sum.result ≡ sum_by (λ t. share (task_of t)) tasks = search (rules, chains) in
    let all : c.sum.result ≡ shares (map task_of tasks) = found ∙ sum_by_total (λ t. share (task_of t)) (λ ts. shares (map task_of ts)) refl (λ t ts. refl) tasks in
    record {
      value = omega (arith, all ∙ ap shares c.tasks.ensures.value);
      bound = omega (arith, all, total-le (λ t. share (task_of t)) (λ ts. shares (map task_of ts)) refl (λ t ts. refl) 65536 share-le tasks, c.tasks.ensures.bound);
    }
