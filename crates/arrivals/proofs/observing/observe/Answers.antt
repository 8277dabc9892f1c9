use Rattle.std.proofs.Common.{◌≡◌, map, length, None, sym, ap, ◌∙◌, subst, arith}
use Rattle.std.proofs.lemmas.List.{length-map}
use Rattle.arrivals.specs.Monitor.{fresh, monitor_of}
use Rattle.arrivals.specs.Runs.{events, history, told}
use Rattle.arrivals.specs.Windows.{AllAdmittedRightly}
use Rattle.arrivals.specs.declared.counter.Event.TheVariants.{Arrival}
use Rattle.arrivals.specs.declared.record.Record.{Record}
use Rattle.bounded.specs.List.{items}
use Rattle.tasks.specs.Task.{task_of}
use Rattle.arrivals.proofs.Admission.{all_admitted_rightly}
use Rattle.arrivals.proofs.Ranges.{real_staircases}
use Rattle.arrivals.proofs.Recorded.{Answered, answered_all, answered_more, answered_none, length_observations, records_told}
use Rattle.arrivals.proofs.observing.observe.Goals as goal

pub loop-record-init : goal.loop-record-init
loop-record-init c =
    let start = fresh (task_of c.args.task.now) in
    subst (Answered start c.args.records.now c.args.records.now 0) (sym c.new-monitor.ensures) (answered_none start c.args.records.now)

pub loop-record-preserved : goal.loop-record-preserved
loop-record-preserved c =
    let none : Record = record { event = Arrival; answer = None } in
    answered_more _ (monitor_of c.loop-record.monitor) _ c.args.records.now c.loop-record.records c.loop-record.record-index _ none (omega arith)
    c.bring.ensures.event c.bring.ensures.answer c.bring.ensures.left c.loop-record.invariant

pub returns : goal.returns
returns c =
    let all = answered_all _ (monitor_of c.loop-record.monitor) c.args.records.now c.loop-record.records c.loop-record.record-index (omega arith) (omega arith) c.loop-record.invariant in
    let t = task_of c.args.task.now in
    let held = c.loop-record.records in
    let es = events c.args.records.now in
    let many : length (history held) ≡ length held =
    ap length all.0 ∙ length_observations (fresh t) es ∙ length-map c.args.records.now (λ r. r.event) ∙ omega arith in
    record {
      answers = records_told held many ∙ ap (map told) all.0;
      left = all.1;
      admission = subst (AllAdmittedRightly t) (sym all.0) (all_admitted_rightly t (real_staircases (items c.args.task.now.staircases)) es);
    }
