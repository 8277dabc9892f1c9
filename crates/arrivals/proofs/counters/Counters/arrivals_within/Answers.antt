use Rattle.std.proofs.Common.{◌≡◌, map, min, sym, ap, ◌∙◌, arith, rules}
use Rattle.std.specs.List.{reduce}
use Rattle.std.proofs.lemmas.Iterator.{YieldsList-from_map, YieldsList-from_slice}
use Rattle.std.proofs.lemmas.Iterator.Adapters.{option_map_id}
use Rattle.std.proofs.lemmas.Iterator.Consumers.{min_from_yields_List}
use Rattle.bounded.specs.List.{items}
use Rattle.tasks.proofs.Least.{least_from_min}
use Rattle.arrivals.specs.Bucket.{arrivals_within, bucket_allows, bucket_of, counters_of}
use Rattle.arrivals.proofs.Bounds.{arrivals_at_most}
use Rattle.arrivals.proofs.counters.Counters.arrivals_within.Goals as goal

pub returns : goal.returns
returns c =
    let bs = c.as_slice.result.now in
    let found : c.min.result ≡ reduce min (map (λ b. bucket_allows c.args.instants (bucket_of b)) bs) =
    sym (option_map_id _) ∙ min_from_yields_List _ _ c.min.ensures.ran (YieldsList-from_map _ _ (YieldsList-from_slice bs cc) c.map-bounds.ensures.closure (λ x r q k. search rules)) in
    let value : c.unwrap_or.result ≡ arrivals_within c.args.instants (counters_of c.args.self.now) =
    c.unwrap_or.ensures ∙ least_from_min (bucket_allows c.args.instants) bucket_of bs c.min.result found ∙ ap (λ list. arrivals_within c.args.instants (map bucket_of list)) c.as_slice.ensures.value in
    record { value = value; bound = omega (arith, value, arrivals_at_most (items c.args.self.now.buckets) c.args.instants) }
