use Rattle.std.proofs.Common.{◌≡◌, ◌-◌, map, min, sym, ◌∙◌, rules}
use Rattle.std.specs.List.{reduce}
use Rattle.std.proofs.lemmas.Iterator.{YieldsList-from_map, YieldsList-from_slice}
use Rattle.std.proofs.lemmas.Iterator.Adapters.{option_map_id}
use Rattle.std.proofs.lemmas.Iterator.Consumers.{min_from_yields_List}
use Rattle.tasks.specs.Staircase.{allowed_in, staircase_of}
use Rattle.tasks.proofs.Least.{least_from_min}
use Rattle.tasks.proofs.making.pending_bound.Goals as goal

pub returns : goal.returns
returns c =
    let ss = c.args.staircases.now in
    let found : c.min.result ≡ reduce min (map (λ s. allowed_in (c.args.deadline - 1) (staircase_of s)) ss) =
    sym (option_map_id _) ∙ min_from_yields_List _ _ c.min.ensures.ran (YieldsList-from_map _ _ (YieldsList-from_slice ss cc) c.map-bounds.ensures.closure (λ x r q k. search rules)) in
    c.unwrap_or.ensures ∙ least_from_min (allowed_in (c.args.deadline - 1)) staircase_of ss c.min.result found
