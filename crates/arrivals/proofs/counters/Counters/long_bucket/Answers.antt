use Rattle.std.proofs.Common.{◌≡◌, ◌-◌, cond, drop, fold, length, map, take, ap, ◌∙◌, rules}
use Rattle.std.proofs.lemmas.Iterator.{YieldsList-from_slice}
use Rattle.std.proofs.lemmas.Iterator.Consumers.{fold_from_yields_List}
use Rattle.std.proofs.lemmas.List.{take_all}
use Rattle.tasks.proofs.LongStaircase.{folded_longest, longest_found}
use Rattle.tasks.specs.Staircase.{longer, no_staircase, staircase_of}
use Rattle.arrivals.specs.Bucket.{bucket_of, full, long_bucket}
use Rattle.arrivals.proofs.counters.Counters.long_bucket.Goals as goal

pub returns : goal.returns
returns c =
    let all = c.as_slice.result.now in
    let first = c.first-item.result in
    let rest = take (length all - 1) (drop 1 all) in
    let found : c.fold.result ≡ fold (λ l x. cond (longer (staircase_of x.staircase) (staircase_of l.staircase)) x l) first rest =
    fold_from_yields_List _ (λ l x. cond (longer (staircase_of x.staircase) (staircase_of l.staircase)) x l) first c.fold.result c.fold.ensures.ran (YieldsList-from_slice rest (c.iter.ensures.rest ∙ search (rules, take_all))) (λ a x b q k. search rules) in
    longest_found (full no_staircase) (λ b. b.staircase) bucket_of all first c.fold.result c.in-len1-up.len_at_least c.first-item.is (found ∙ folded_longest (λ b. staircase_of b.staircase) first rest)
    ∙ ap (λ bs. long_bucket (map bucket_of bs)) c.as_slice.ensures.value
