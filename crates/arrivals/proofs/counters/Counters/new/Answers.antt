use Rattle.std.proofs.Common.{◌≡◌, map, length, take, sym, ap, ◌∙◌, arith}
use mathlib.Core.List.{map-map}
use Rattle.std.proofs.lemmas.List.{length-map, take_all}
use Rattle.arrivals.specs.Bucket.{bucket_of, full}
use Rattle.bounded.specs.List.{items}
use Rattle.tasks.specs.Staircase.{staircase_of}
use Rattle.tasks.proofs.Lists.{filled_more}
use Rattle.arrivals.proofs.counters.Counters.new.Goals as goal

pub loop-staircase-preserved : goal.loop-staircase-preserved
loop-staircase-preserved c =
    let staircases = c.as_slice-staircases.result.now in
    let item = c.staircase-item.result in
    filled_more bucket_of (λ s. full (staircase_of s)) 4 (items c.loop-staircase.buckets) _ staircases c.loop-staircase.staircase-index c.new-in-loop-staircase.result item
    c.loop-staircase-test.true c.as_slice-staircases.ensures.bound c.loop-staircase.invariant c.push.ensures.after
    (c.new-in-loop-staircase.ensures ∙ ap (λ s. full (staircase_of s)) c.staircase-item.is)

-- a bucket for each staircase, and there is one
pub invariant_of-result : goal.invariant_of-result
invariant_of-result c =
    let staircases = c.as_slice-staircases.result.now in
    let filled = items c.loop-staircase.buckets in
    let same : length filled ≡ length staircases =
    sym (length-map filled bucket_of) ∙ ap length c.loop-staircase.invariant ∙ length-map (take c.loop-staircase.staircase-index staircases) (λ s. full (staircase_of s))
    ∙ ap length (take_all c.loop-staircase.staircase-index staircases c.loop-staircase-test.false) in
    let some = c.args.task.now.bounded_arrivals in
    omega (arith, ap length c.as_slice-staircases.ensures.value)

pub returns : goal.returns
returns c =
    let staircases = c.as_slice-staircases.result.now in
    c.loop-staircase.invariant
    ∙ ap (map (λ s. full (staircase_of s))) (take_all c.loop-staircase.staircase-index staircases c.loop-staircase-test.false ∙ c.as_slice-staircases.ensures.value)
    ∙ sym (map-map full staircase_of (items c.args.task.now.staircases))
