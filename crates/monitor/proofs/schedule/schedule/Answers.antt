use Rattle.std.proofs.Common.{◌++◌, replicate, vec_items, sym, ap, ◌∙◌, rules}
use Rattle.std.proofs.lemmas.List.{append-nil, at_drop_all}
use Rattle.arrivals.specs.Runs.{events}
use Rattle.arrivals.specs.declared.counter.Event.TheVariants.{Tick}
use Rattle.monitor.specs.Schedule.{scheduled}
use Rattle.monitor.proofs.Pushed.{arrived_more}
use Rattle.monitor.proofs.schedule.schedule.Goals as goal

pub loop-instant-preserved : goal.loop-instant-preserved
loop-instant-preserved c =
    let instants = c.args.instants.now in
    let i = c.loop-instant.instant-index in
    let before = vec_items c.loop-instant.records in
    let ticks = c.in_ok-wait.ensures ∙ ap (λ n. events before ++ replicate n Tick) c.saturating_sub.ensures in
    arrived_more instants i c.loop-instant.clock c.max-clock.result 0 before (vec_items c.wait.new.records) _ c.into.result c.loop-instant-test.true (search rules)
    c.loop-instant.invariant ticks c.in_ok-push.ensures.items c.max-clock.ensures

pub returns : goal.returns
returns c =
    let instants = c.args.instants.now in
    let before = events (vec_items c.loop-instant.records) in
    sym (append-nil before) ∙ sym (ap (λ es. before ++ es) (at_drop_all (scheduled c.loop-instant.clock) instants c.loop-instant.instant-index c.loop-instant-test.false))
    ∙ c.loop-instant.invariant
