use Rattle.std.proofs.Common.{◌≡◌, ◌++◌, replicate, vec_items, sym, ap, ◌∙◌, arith, rules}
use Rattle.std.proofs.lemmas.List.{append-nil}
use Rattle.arrivals.specs.Runs.{events}
use Rattle.arrivals.specs.declared.counter.Event.TheVariants.{Tick}
use Rattle.monitor.proofs.Pushed.{waited_more}
use Rattle.monitor.proofs.schedule.wait.Goals as goal

pub loop-init : goal.loop-init
loop-init c = sym (append-nil (events (vec_items c.args.records.now)))

pub loop-preserved : goal.loop-preserved
loop-preserved c =
    waited_more (events (vec_items c.args.records.now)) (vec_items c.loop.records) _ c.into.result c.loop.counter (search rules) c.loop.invariant c.in_ok-push.ensures.items

pub returns : goal.returns
returns c =
    let done : c.loop.counter ≡ c.args.ticks = omega arith in
    c.loop.invariant ∙ ap (λ n. events (vec_items c.args.records.now) ++ replicate n Tick) done
