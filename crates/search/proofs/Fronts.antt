-- The front of the first lanes of a list: its parts are the sums over these lanes, and it grows lane by lane.
use Rattle.std.proofs.Common.{◌≡◌, ℕ, zero, suc, ◌+◌, ◌*◌, ◌<◌, ◌≤◌, List, [], ◌∷◌, ◌++◌, map, length, get_or, take, sym, refl, ap, ◌∙◌, subst, mul-le-mul, arith}
use Rattle.std.proofs.lemmas.List.{map_more}
use Rattle.std.specs.List.{AllByRecursion}
use Rattle.fit.proofs.Formed.{lane_formed, lanes_formed}
use Rattle.fit.proofs.Horizons.{Rated, standing_at_most_peak}
use Rattle.fit.proofs.Rates.{demand_at_most_load, line_load_rate, load_rate, long_staircase_formed}
use Rattle.fit.specs.WellFormed.{LaneFormed}
use Rattle.lanes.specs.Demand.{demand}
use Rattle.lanes.specs.Lane.{LaneModel, lane_of, tasks_of}
use Rattle.lanes.specs.Lanes.{lanes_of}
use Rattle.lanes.specs.Standing.{standing, standing_of}
use Rattle.lanes.specs.declared.lane.Lane.{Lane}
use Rattle.lanes.specs.declared.lanes.Lanes.{Lanes}
use Rattle.tasks.specs.Task.{share}
use Rattle.tasks.specs.TaskSet.{shares}
use Rattle.search.specs.Front.{FrontModel, Light, empty_front, with_lane, with_lanes}
use Rattle.search.specs.Weighing.{asked_after}
use Rattle.search.proofs.Weighings.{asked_rated}

-- the lanes before the one with the index i
abbrev pub before : ℕ → List Lane → List LaneModel
before i lanes = map lane_of (take i lanes)

-- what they take together
abbrev pub front_before : ℕ → List Lane → FrontModel
front_before i lanes = with_lanes empty_front (before i lanes)

shares_added : (f : FrontModel) (ls : List LaneModel) → (with_lanes f ls).shares ≡ f.shares + shares (tasks_of ls)
shares_added f [] = omega arith
shares_added f (l ∷ ls) = omega (arith, shares_added (with_lane f l) ls)

standing_added : (f : FrontModel) (ls : List LaneModel) → (with_lanes f ls).standing ≡ f.standing + standing ls
standing_added f [] = omega arith
standing_added f (l ∷ ls) = omega (arith, standing_added (with_lane f l) ls)

-- a front has the shares of its lanes, and what stands of their work
pub front_shares : (ls : List LaneModel) → (with_lanes empty_front ls).shares ≡ shares (tasks_of ls)
front_shares ls = omega (arith, shares_added empty_front ls)

pub front_standing : (ls : List LaneModel) → (with_lanes empty_front ls).standing ≡ standing ls
front_standing ls = omega (arith, standing_added empty_front ls)

with_lanes_push : (f : FrontModel) (ls : List LaneModel) (l : LaneModel) → with_lanes f (ls ++ l ∷ []) ≡ with_lane (with_lanes f ls) l
with_lanes_push f [] l = refl
with_lanes_push f (k ∷ ls) l = with_lanes_push (with_lane f k) ls l

-- a front part has at most the shares of the whole
shares_before : (i : ℕ) (lanes : List Lane) → shares (tasks_of (before i lanes)) ≤ shares (tasks_of (map lane_of lanes))
shares_before zero lanes = omega arith
shares_before (suc i) [] = omega arith
shares_before (suc i) (l ∷ lanes) = omega (arith, shares_before i lanes)

-- of each lane stands at most eight pending jobs and a burst of eight
lane_stands : (l : LaneModel) → LaneFormed l → standing_of l ≤ 1024
lane_stands l ok =
    omega (
      arith,
      standing_at_most_peak (l ∷ []) (ok, tt),
      mul-le-mul ok.task.limit_below (long_staircase_formed l.task ok.task).burst_below,
      ok.task.limit_below,
    )

stands_before : (i : ℕ) (lanes : List Lane) → standing (before i lanes) ≤ 1024 * i
stands_before zero lanes = omega arith
stands_before (suc i) [] = omega arith
stands_before (suc i) (l ∷ lanes) = omega (arith, lane_stands (lane_of l) (lane_formed l), stands_before i lanes)

start_added : (f : FrontModel) (ls : List LaneModel) → AllByRecursion LaneFormed ls → (with_lanes f ls).start ≤ f.start + 1024 * standing ls
start_added f [] ok = omega arith
start_added f (l ∷ ls) ok = omega (arith, line_load_rate l ok.0 0, start_added (with_lane f l) ls ok.1)

-- the lines above the loads begin with at most what stands
pub front_start : (ls : List LaneModel) → AllByRecursion LaneFormed ls → (with_lanes empty_front ls).start ≤ 1024 * standing ls
front_start ls ok = omega (arith, start_added empty_front ls ok)

-- how large a front gets
pub front_light : (lanes : List Lane) (i : ℕ) → i ≤ 8 → shares (tasks_of (map lane_of lanes)) ≤ 960 → Light (front_before i lanes)
front_light lanes i few light =
    record {
      shares = omega (arith, front_shares (before i lanes), shares_before i lanes);
      standing = omega (arith, front_standing (before i lanes), stands_before i lanes);
      start = omega (arith, front_start (before i lanes) (lanes_formed (take i lanes)), stands_before i lanes);
    }

-- the front f of the lanes before the one that a loop is at grows by this lane
module _ (lanes : List Lane) (i : ℕ) (lane : Lane) {f : FrontModel} (was : f ≡ front_before i lanes) where
  pub front_more : i < length lanes → lane ≡ get_or lanes i lane → with_lane f (lane_of lane) ≡ front_before (i + 1) lanes
  front_more within read =
      ap (λ h. with_lane h (lane_of lane)) was ∙ ap (λ l. with_lane (front_before i lanes) (lane_of l)) read
      ∙ sym (ap (with_lanes empty_front) (map_more lane_of lanes i lane within) ∙ with_lanes_push empty_front (before i lanes) (lane_of (get_or lanes i lane)))

  -- the tasks ask at most for what stands of them and for their shares, where those before may ask A
  pub front_bounds : (ld : LaneModel → ℕ → ℕ) → Rated ld → (now : ℕ) (A : ℕ → ℕ) → ((y : ℕ) → A y ≡ asked_after ld (λ z. 0) (before i lanes) y)
      → {g : FrontModel} → g ≡ with_lane f (lane_of lane) → (y : ℕ) → 1024 * demand now (lane_of lane) y + A y ≤ 1024 * g.standing + g.shares * y
  front_bounds ld rated now A asks {g} added y =
      let l : LaneModel = lane_of lane in
      let ls : List LaneModel = before i lanes in
      let whole : g ≡ with_lane (with_lanes empty_front ls) l = added ∙ ap (λ h. with_lane h l) was in
      let stands : g.standing ≡ standing ls + standing_of l = omega (arith, ap (λ (h : FrontModel). h.standing) whole, front_standing ls) in
      let takes : g.shares ≡ shares (tasks_of ls) + share l.task = omega (arith, ap (λ (h : FrontModel). h.shares) whole, front_shares ls) in
      omega (
        arith,
        asks y,
        demand_at_most_load now l y (lane_formed lane),
        load_rate l (lane_formed lane) y,
        asked_rated ld rated (λ z. 0) ls y (lanes_formed (take i lanes)),
        stands,
        ap (λ s. s * y) takes,
      )

  pub front_stays_light : (whole : Lanes) → map lane_of lanes ≡ lanes_of whole → length lanes ≤ 8 → i < length lanes → lane ≡ get_or lanes i lane
      → Light (with_lane f (lane_of lane))
  front_stays_light whole same few within read =
      let light : shares (tasks_of (map lane_of lanes)) ≤ 960 = omega (arith, ap (λ ls. shares (tasks_of ls)) same, whole.light) in
      subst Light (sym (front_more within read)) (front_light lanes (i + 1) (omega arith) light)
