-- A turn of a loop over the lanes: the task with the index i is weighed behind those before it.
use Rattle.std.proofs.Common.{◌≡◌, ℕ, ◌+◌, ◌<◌, ◌≤◌, ◌↔◌, List, [], ◌∷◌, ◌++◌, map, length, get_or, drop, sym, ap, ◌∙◌, subst}
use Rattle.std.proofs.lemmas.List.{at_drop_more, map_more}
use Rattle.fit.specs.Weighing.{Weighs}
use Rattle.lanes.specs.Demand.{demand}
use Rattle.lanes.specs.Lane.{LaneModel, lane_of}
use Rattle.lanes.specs.declared.lane.Lane.{Lane}
use Rattle.search.specs.Weighing.{asked_after}
use Rattle.search.proofs.Fronts.{before}
use Rattle.search.proofs.Weighings.{Left, left_more}

-- the tasks up to this one are weighed, and it left the margin n of m
pub turn_left : (ld : LaneModel → ℕ → ℕ) (now m n : ℕ) (lanes : List Lane) (i : ℕ) (lane : Lane) (A : ℕ → ℕ) → i < length lanes → lane ≡ get_or lanes i lane
    → ((y : ℕ) → A y ≡ asked_after ld (λ z. 0) (before i lanes) y)
    → ((w : ℕ) → 0 < w → (w ≤ n) ↔ ((w ≤ m) × Weighs w (demand now (lane_of lane)) A))
    → Left ld now (map lane_of lanes) m (before i lanes) (map lane_of (drop i lanes))
    → Left ld now (map lane_of lanes) n (before (i + 1) lanes) (map lane_of (drop (i + 1) lanes))
turn_left ld now m n lanes i lane A within read asks passes left =
    let l : LaneModel = lane_of lane in
    let own : lane_of (get_or lanes i lane) ≡ l = ap lane_of (sym read) in
    let front : before i lanes ++ (l ∷ []) ≡ before (i + 1) lanes = ap (λ k. before i lanes ++ (k ∷ [])) (sym own) ∙ sym (map_more lane_of lanes i lane within) in
    let rest : map lane_of (drop i lanes) ≡ l ∷ map lane_of (drop (i + 1) lanes) =
    at_drop_more (map lane_of) lanes i lane within ∙ ap (λ k. k ∷ map lane_of (drop (i + 1) lanes)) own in
    subst (λ (ls : List LaneModel). Left ld now (map lane_of lanes) n ls (map lane_of (drop (i + 1) lanes))) front
    (left_more ld now m n (map lane_of lanes) (before i lanes) (map lane_of (drop (i + 1) lanes)) l A asks passes
    (subst (λ (ls : List LaneModel). Left ld now (map lane_of lanes) m (before i lanes) ls) rest left))
