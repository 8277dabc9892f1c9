use Rattle.std.proofs.Common.{◌≡◌, ◌+◌, ◌<◌, ltb, [], ◌∷◌, ◌++◌, map, length, sym, ap, ◌∙◌, arith}
use Rattle.std.proofs.lemmas.List.{length-map, map_push}
use Rattle.std.proofs.lemmas.Result.{err_from_is_err_and}
use Rattle.std.proofs.lemmas.Bool.{cond-true, lt-ltb}
use Rattle.bounded.specs.List.{items}
use Rattle.tasks.specs.Draft.{draft_of, joined_by, numbered, unless_full}
use Rattle.tasks.specs.EntryRefusal.{entry_refusal}
use Rattle.tasks.specs.Reply.{plain, refused, reply, served}
use Rattle.tasks.specs.Task.{task_of}
use Rattle.tasks.proofs.draft.Draft.add.Goals as goal

pub returns-in_err-task : goal.returns-in_err-task
returns-in_err-task c =
    let ts = draft_of c.args.self.now in
    let made = reply task_of entry_refusal c.args.made in
    let long : length ts ≡ length (items c.args.self.now.tasks) = length-map (items c.args.self.now.tasks) task_of in
    let room : length ts < 8 = omega (arith, ap length c.as_slice-count.ensures.value) in
    let here : unless_full ts made ≡ made = cond-true (ltb (length ts) 8) made (refused (plain 1)) (lt-ltb (length ts) 8 room) in
    let was : made ≡ refused (entry_refusal c.in_err-task.field-0.0) = ap (reply task_of entry_refusal) c.in_err-task.was in
    let exit = err_from_is_err_and c.from_residual.result c.from_residual.ensures.1 in
    record {
      answer = rw (exit.1, exit.2) (sym (ap (numbered ts) (here ∙ was)));
      after = sym (ap (joined_by ts) (here ∙ was));
    }

pub returns : goal.returns
returns c =
    let held = items c.args.self.now.tasks in
    let ts = draft_of c.args.self.now in
    let task = c.in_ok-task.task in
    let made = reply task_of entry_refusal c.args.made in
    let long : length ts ≡ length held = length-map held task_of in
    let count : length held ≡ length c.as_slice-count.result.now = sym (ap length c.as_slice-count.ensures.value) in
    let room : length ts < 8 = omega arith in
    let here : unless_full ts made ≡ made = cond-true (ltb (length ts) 8) made (refused (plain 1)) (lt-ltb (length ts) 8 room) in
    let was : made ≡ served (task_of task) = ap (reply task_of entry_refusal) c.in_ok-task.was in
    record {
      answer = ap (λ n. served (n + 1)) (sym (long ∙ count)) ∙ sym (ap (numbered ts) (here ∙ was));
      after = ap (map task_of) (c.push.ensures.after ∙ cond-true (ltb (length held) 8) (held ++ task ∷ []) held (lt-ltb (length held) 8 (omega arith))) ∙ map_push task_of held task ∙ sym (ap (joined_by ts) (here ∙ was));
    }
