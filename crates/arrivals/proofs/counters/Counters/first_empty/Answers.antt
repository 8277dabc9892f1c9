use Rattle.std.proofs.Common.{◌≡◌, ◌+◌, not, map, option_map, ap, ◌∙◌, rules}
use Rattle.std.proofs.Common.{tests}
use Rattle.std.specs.List.{position_from}
use Rattle.std.proofs.lemmas.Iterator.{YieldsList-from_slice}
use Rattle.std.proofs.lemmas.Iterator.Adapters.{position_from-zero}
use Rattle.std.proofs.lemmas.Iterator.Search.{position_from_yields_List}
use Rattle.arrivals.specs.Bucket.{bucket_of, first_empty, has_token}
use Rattle.arrivals.proofs.Empty.{first_empty_is}
use Rattle.arrivals.proofs.counters.Counters.first_empty.Goals as goal

pub returns : goal.returns
returns c =
    let bs = c.as_slice.result.now in
    let found : c.position-empty.result ≡ position_from (λ b. not (has_token (bucket_of b))) 0 bs =
    position_from_yields_List (λ b. not (has_token (bucket_of b))) _ _ c.position-empty.result c.position-empty.ensures.ran (YieldsList-from_slice bs cc) (λ x b q k. search (rules, tests))
    ∙ position_from-zero (λ b. not (has_token (bucket_of b))) bs in
    let counted : c.map.result ≡ option_map (λ i. i + 1) c.position-empty.result = search rules in
    counted ∙ ap (option_map (λ i. i + 1)) found ∙ first_empty_is bucket_of 0 bs ∙ ap (λ list. first_empty 1 (map bucket_of list)) c.as_slice.ensures.value
