use Rattle.std.proofs.Common.{ℕ, subst}
use Rattle.bounded.specs.List.{items}
use Rattle.fit.proofs.FirstMisfit.{enough_to_search, one_answer, search_finds}
use Rattle.fit.proofs.Formed.{lanes_formed}
use Rattle.fit.specs.Fit.{FirstMisfit}
use Rattle.fit.specs.Search.{first_misfit}
use Rattle.lanes.specs.Lanes.{lanes_of}
use Rattle.search.proofs.snapshot.Snapshot.first_misfit.Goals as goal

-- the search answers rightly, and there is one right answer
pub returns : goal.returns
returns c =
    let clock = c.args.self.clock in
    let lanes = c.args.self.lanes.now in
    let ls = lanes_of lanes in
    let formed = lanes_formed (items lanes.lanes) in
    let first : FirstMisfit clock c.args.amount ls c.search.result =
    enough_to_search clock c.args.amount ls c.search.result formed (subst (λ (w : ℕ). FirstMisfit clock w ls c.search.result) c.min.ensures c.search.ensures) in
    record {
      value = one_answer clock c.args.amount ls c.search.result (first_misfit clock c.args.amount ls) first (search_finds clock c.args.amount ls formed lanes.light);
      first = first;
    }
