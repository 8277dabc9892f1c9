-- A search for a pending job.
use Rattle.std.proofs.Common.{◌≡◌, ◌&&◌, eqb, List, [], ◌∷◌, map, length, refl, ap, ◌∙◌, arith}
use Rattle.std.proofs.lemmas.Bool.{ne_eqb}
use Rattle.std.specs.List.{list_all}
use Rattle.bounded.specs.List.{items}
use Rattle.fit.specs.State.{none, none_pending}
use Rattle.lanes.specs.Lane.{lane_of}
use Rattle.lanes.specs.declared.lane.Lane.{Lane}

-- a list without elements has the length 0
pub none_by_length : {A : Type 0} (xs : List A) → eqb (length xs) 0 ≡ none xs
none_by_length [] = refl
none_by_length (x ∷ xs) = ne_eqb (length (x ∷ xs)) 0 (λ e. omega arith)

-- each lane of a list passes the test that its jobs are none
pub all_none_pending : (lanes : List Lane) → list_all (λ (l : Lane). eqb (length (items l.pending)) 0) lanes ≡ none_pending (map lane_of lanes)
all_none_pending [] = refl
all_none_pending (l ∷ ls) =
    ap (λ b. b && list_all (λ (m : Lane). eqb (length (items m.pending)) 0) ls) (none_by_length (items l.pending)) ∙ ap (λ b. none (items l.pending) && b) (all_none_pending ls)
