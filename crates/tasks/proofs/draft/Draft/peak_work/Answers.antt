use Rattle.std.proofs.Common.{◌≡◌, ◌+◌, map, sum_by, refl, ap, ◌∙◌, arith, rules}
use Rattle.std.proofs.iter.runs.Made.{chains}
use Rattle.tasks.specs.Task.{task_of}
use Rattle.tasks.specs.TaskSet.{peak_of, peak_of_tasks}
use Rattle.tasks.proofs.Ranges.{peak-le}
use Rattle.tasks.proofs.Sums.{sum_by_total, total-le}
use Rattle.tasks.proofs.draft.Draft.peak_work.Goals as goal

pub overflow_add-result : goal.overflow_add-result
overflow_add-result c =
    let tasks = c.tasks.result.now in
    let found : c.sum-work.result ≡ sum_by (λ t. peak_of (task_of t)) tasks = search (rules, chains) in
    omega (arith, found, sum_by_total (λ t. peak_of (task_of t)) (λ ts. peak_of_tasks (map task_of ts)) refl (λ t ts. refl) tasks, total-le (λ t. peak_of (task_of t)) (λ ts. peak_of_tasks (map task_of ts)) refl (λ t ts. refl) 1024 peak-le tasks, c.tasks.ensures.bound)

pub returns : goal.returns
returns c =
    let tasks = c.tasks.result.now in
    let found : c.sum-work.result ≡ sum_by (λ t. peak_of (task_of t)) tasks = search (rules, chains) in
    let all : c.sum-work.result ≡ peak_of_tasks (map task_of tasks) = found ∙ sum_by_total (λ t. peak_of (task_of t)) (λ ts. peak_of_tasks (map task_of ts)) refl (λ t ts. refl) tasks in
    record {
      value = ap (λ n. 1024 + n) (all ∙ ap peak_of_tasks c.tasks.ensures.value);
      bound = omega (arith, all, total-le (λ t. peak_of (task_of t)) (λ ts. peak_of_tasks (map task_of ts)) refl (λ t ts. refl) 1024 peak-le tasks, c.tasks.ensures.bound);
    }
