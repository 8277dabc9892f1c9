use Rattle.std.proofs.Common.{ℕ, true, false, sym, ap, ◌∙◌}
use Rattle.fit.specs.State.{StateModel, fresh_state}
use Rattle.state.specs.State.{state_of}
use Rattle.tasks.specs.Draft.{draft_of}
use Rattle.tasks.specs.Reply.{Reply, served, then}
use Rattle.gate.specs.Opening.{allowed}
use Rattle.gate.specs.Preparing.{preparation}
use Rattle.gate.proofs.Openings.{allowed_above, no_task, refused_on, tasks_there, then_allowed, then_refused}
use Rattle.gate.proofs.gate.Gate.prepare.Goals as goal

-- as opening answers, with the fresh state beside the allowance
abbrev beside : StateModel → Reply ℕ → Reply (StateModel × ℕ)
beside fresh a = then a (λ n. served (fresh, n))

pub returns-then-is_empty : goal.returns-then-is_empty
returns-then-is_empty g c =
    let ts = draft_of c.args.draft.now in
    let meaning = g.R.Allowance.meaning c.args.self.now.rule in
    record { answer = sym (ap (beside (fresh_state c.args.reading ts)) (no_task meaning c.args.reading ts (tasks_there c.tasks.result.now ts true c.tasks.ensures.value c.if-is_empty.ensures))) }

pub returns-in_err-state : goal.returns-in_err-state
returns-in_err-state g c =
    let ts = draft_of c.args.draft.now in
    let meaning = g.R.Allowance.meaning c.args.self.now.rule in
    let there = tasks_there c.tasks.result.now ts false c.tasks.ensures.value c.if-is_empty.ensures in
    let found = then_refused meaning c.args.reading ts _ there c.in_err-state.ensures in
    record { answer = refused_on preparation _ c.from_residual.result c.from_residual.ensures.1 ∙ sym (ap (beside (fresh_state c.args.reading ts)) found) }

pub returns-then-allowance-eq0 : goal.returns-then-allowance-eq0
returns-then-allowance-eq0 g c =
    let ts = draft_of c.args.draft.now in
    let n = c.allowance-allowance.result in
    let meaning = g.R.Allowance.meaning c.args.self.now.rule in
    let found = then_allowed meaning c.args.reading ts n (state_of c.in_ok-state.state) (tasks_there c.tasks.result.now ts false c.tasks.ensures.value c.if-is_empty.ensures)
    c.in_ok-state.ensures c.in_default.ensures.value c.allowance-allowance.ensures.value in
    record { answer = sym (ap (beside (fresh_state c.args.reading ts)) (found.1 ∙ ap allowed c.if-allowance-eq0.true)) }

pub returns : goal.returns
returns g c =
    let ts = draft_of c.args.draft.now in
    let n = c.allowance-allowance.result in
    let meaning = g.R.Allowance.meaning c.args.self.now.rule in
    let found = then_allowed meaning c.args.reading ts n (state_of c.in_ok-state.state) (tasks_there c.tasks.result.now ts false c.tasks.ensures.value c.if-is_empty.ensures)
    c.in_ok-state.ensures c.in_default.ensures.value c.allowance-allowance.ensures.value in
    record {
      answer =
          ap (λ s. served (s, n)) found.0 ∙ sym (ap (beside (fresh_state c.args.reading ts)) (found.1 ∙ allowed_above n c.if-allowance-eq0.false));
    }
