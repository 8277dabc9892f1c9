use Rattle.std.proofs.Common.{◌≡◌, ℕ, List, sym, refl, ap, ◌∙◌, subst, arith}
use Rattle.std.proofs.lemmas.List.{length-map}
use Rattle.std.proofs.lemmas.Result.{err_from_is_err_and}
use Rattle.bounded.specs.List.{items}
use Rattle.fit.proofs.Formed.{few_items, tasks_formed}
use Rattle.fit.specs.State.{StateModel, fresh_state}
use Rattle.state.specs.State.{state_of}
use Rattle.tasks.specs.Draft.{draft_of}
use Rattle.tasks.specs.Reply.{refused, reply}
use Rattle.tasks.specs.Task.{task_of}
use Rattle.gate.specs.Gate.{GateModel, gate_of}
use Rattle.gate.specs.Opening.{open_answer, opened_by}
use Rattle.gate.specs.OpensRightly.{OpensRightly}
use Rattle.gate.specs.OpenRefusal.{open_refusal}
use Rattle.gate.specs.declared.offer.Offer.{Offer}
use Rattle.gate.proofs.Openings.{opens_rightly, prepared_refused, prepared_served}
use Rattle.gate.proofs.gate.Gate.open.Goals as goal

pub returns-in_err-state : goal.returns-in_err-state
returns-in_err-state g c =
    let draft = c.args.draft.now in
    let ts = draft_of draft in
    let reading = c.args.reading in
    let meaning = g.R.Allowance.meaning c.args.self.now.rule in
    let exit = err_from_is_err_and c.from_residual.result c.from_residual.ensures.1 in
    let found : open_answer meaning reading ts ≡ refused (open_refusal c.in_err-state.field-0.0) = prepared_refused (open_answer meaning reading ts) _ (fresh_state reading ts) c.in_err-state.ensures.answer in
    let answer : reply {T = ℕ} {A = ℕ} (λ n. n) open_refusal c.from_residual.result ≡ open_answer meaning reading ts = rw (exit.1, exit.2) (sym found) in
    record {
      answer = answer;
      after = sym (ap (λ a. opened_by a reading ts (gate_of c.args.self.now)) found);
      rule = refl;
      right = subst (OpensRightly reading ts) (sym answer) (opens_rightly reading ts (tasks_formed (items draft.tasks)) (omega (arith, length-map (items draft.tasks) task_of, few_items draft.tasks)) meaning);
    }

pub returns : goal.returns
returns g c =
    let draft = c.args.draft.now in
    let ts = draft_of draft in
    let reading = c.args.reading in
    let n = c.in_ok-state.allowance in
    let meaning = g.R.Allowance.meaning c.args.self.now.rule in
    let found = prepared_served (open_answer meaning reading ts) (state_of c.in_ok-state.state) (fresh_state reading ts) n c.in_ok-state.ensures.answer in
    let state : StateModel → List Offer → GateModel = λ s q. record { state = s; queue = q } in
    record {
      answer = sym found.0;
      after =
          ap (λ s. state s (items c.empty_queue-self.result)) found.1 ∙ ap (state (fresh_state reading ts)) c.empty_queue-self.ensures
          ∙ sym (ap (λ a. opened_by a reading ts (gate_of c.args.self.now)) found.0);
      rule = refl;
      right = subst (OpensRightly reading ts) found.0 (opens_rightly reading ts (tasks_formed (items draft.tasks)) (omega (arith, length-map (items draft.tasks) task_of, few_items draft.tasks)) meaning);
    }
