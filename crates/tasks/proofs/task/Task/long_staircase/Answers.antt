use Rattle.std.proofs.Common.{◌≡◌, ◌<◌, map, length, sym, ap, ◌∙◌, subst}
use Rattle.std.proofs.lemmas.List.{length-map}
use Rattle.bounded.specs.List.{items}
use Rattle.tasks.specs.LongStaircase.{LongOf}
use Rattle.tasks.specs.Staircase.{long_staircase, no_staircase, staircase_of}
use Rattle.tasks.proofs.LongStaircase.{long_of, long_staircase_as, longest_found}
use Rattle.tasks.proofs.task.Task.long_staircase.Goals as goal

pub returns : goal.returns
returns c =
    let held = c.as_slice.result.now in
    let ss = map staircase_of (items c.args.self.now.staircases) in
    let found : staircase_of c.longest.result ≡ long_staircase ss =
    longest_found no_staircase (λ s. s) staircase_of held c.first-item.result c.longest.result c.in-len1-up.len_at_least c.first-item.is c.longest.ensures
    ∙ sym (long_staircase_as (map staircase_of held)) ∙ ap (λ list. long_staircase (map staircase_of list)) c.as_slice.ensures.value in
    let some : 0 < length ss = rw length-map c.args.self.now.bounded_arrivals in
    record { value = found; long = subst (LongOf ss) (sym found) (long_of ss some) }
