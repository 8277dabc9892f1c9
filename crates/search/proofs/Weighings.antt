-- The tasks weighed one after the other, each behind what those before it may ask.
use Rattle.std.proofs.Common.{◌≡◌, ℕ, ◌+◌, ◌*◌, ◌<◌, ◌≤◌, ◌↔◌, List, [], ◌∷◌, ◌++◌, sym, refl, ap, ◌∙◌, subst, arith}
use Rattle.std.specs.List.{AllByRecursion}
use Rattle.fit.proofs.Horizons.{Rated}
use Rattle.fit.specs.Fit.{ahead}
use Rattle.fit.specs.Weighing.{AllWeigh, Weighs}
use Rattle.fit.specs.WellFormed.{LaneFormed}
use Rattle.lanes.specs.Demand.{demand, load}
use Rattle.lanes.specs.Lane.{LaneModel, tasks_of}
use Rattle.lanes.specs.Line.{line_load}
use Rattle.lanes.specs.Standing.{standing}
use Rattle.tasks.specs.TaskSet.{shares}
use Rattle.search.specs.Front.{FrontModel, empty_front, with_lane, with_lanes}
use Rattle.search.specs.Weighing.{asked_after}

pub asked_more : (ld : LaneModel → ℕ → ℕ) (A : ℕ → ℕ) (ls : List LaneModel) (l : LaneModel)
    → asked_after ld A (ls ++ (l ∷ [])) ≡ (λ y. asked_after ld A ls y + ld l y)
asked_more ld A [] l = refl
asked_more ld A (k ∷ ls) l = asked_more ld (λ y. A y + ld k y) ls l

asked_same : (ld : LaneModel → ℕ → ℕ) (A B : ℕ → ℕ) (ls : List LaneModel) (y : ℕ) → ((z : ℕ) → A z ≡ B z) → asked_after ld A ls y ≡ asked_after ld B ls y
asked_same ld A B [] y h = h y
asked_same ld A B (l ∷ ls) y h = asked_same ld (λ z. A z + ld l z) (λ z. B z + ld l z) ls y (λ z. ap (λ n. n + ld l z) (h z))

loads_added : (A : ℕ → ℕ) (ls : List LaneModel) (y : ℕ) → asked_after (λ l z. 1024 * load l z) A ls y ≡ A y + 1024 * ahead ls y
loads_added A [] y = omega arith
loads_added A (l ∷ ls) y = omega (arith, loads_added (λ z. A z + 1024 * load l z) ls y)

-- by their staircases the tasks ask for their loads
pub asked_by_staircases : (ls : List LaneModel) (y : ℕ) → asked_after (λ l z. 1024 * load l z) (λ z. 0) ls y ≡ 1024 * ahead ls y
asked_by_staircases ls y = omega (arith, loads_added (λ z. 0) ls y)

lines_added : (f : FrontModel) (ls : List LaneModel) (y : ℕ)
    → (with_lanes f ls).start + (with_lanes f ls).shares * y ≡ asked_after line_load (λ z. f.start + f.shares * z) ls y
lines_added f [] y = refl
lines_added f (l ∷ ls) y =
    lines_added (with_lane f l) ls y
    ∙ asked_same line_load (λ z. (with_lane f l).start + (with_lane f l).shares * z) (λ z. f.start + f.shares * z + line_load l z) ls y (λ z. omega arith)

-- by their lines they ask for one line, which begins where theirs begin together and rises by their shares
pub asked_by_lines : (ls : List LaneModel) (y : ℕ)
    → (with_lanes empty_front ls).start + (with_lanes empty_front ls).shares * y ≡ asked_after line_load (λ z. 0) ls y
asked_by_lines ls y = lines_added empty_front ls y ∙ asked_same line_load (λ z. empty_front.start + empty_front.shares * z) (λ z. 0) ls y (λ z. omega arith)

-- what they ask lies below the straight line of what stands and of the shares
pub asked_rated : (ld : LaneModel → ℕ → ℕ) → Rated ld → (A : ℕ → ℕ) (ls : List LaneModel) (y : ℕ) → AllByRecursion LaneFormed ls
    → asked_after ld A ls y ≤ A y + 1024 * standing ls + shares (tasks_of ls) * y
asked_rated ld rated A [] y ok = omega arith
asked_rated ld rated A (l ∷ ls) y ok = omega (arith, asked_rated ld rated (λ z. A z + ld l z) ls y ok.1, rated l ok.0 y)

weighs_same : (w : ℕ) (d A B : ℕ → ℕ) → ((y : ℕ) → A y ≡ B y) → Weighs w d A → Weighs w d B
weighs_same w d A B h f Δ k =
    let r : (y : ℕ) × (y ≤ Δ) × (1024 * (w + d Δ) + A y ≤ 1024 * y) = f Δ k in
    (r.0, r.1, omega (arith, r.2, h r.0))

-- The tasks of `before` were weighed and left the margin m; those of `rest` follow: the amounts with which all the tasks of a list pass
-- are those up to m with which the rest passes.
abbrev pub Left : (LaneModel → ℕ → ℕ) → ℕ → List LaneModel → ℕ → List LaneModel → List LaneModel → Type 0
Left ld now all m before rest =
    (w : ℕ) → 0 < w → ((w ≤ m) × AllWeigh ld now w (asked_after ld (λ y. 0) before) rest) ↔ ((w ≤ 1024) × AllWeigh ld now w (λ y. 0) all)

-- one task more is weighed, behind what A tells that those before may ask
pub left_more : (ld : LaneModel → ℕ → ℕ) (now m n : ℕ) (all before rest : List LaneModel) (l : LaneModel) (A : ℕ → ℕ)
    → ((y : ℕ) → A y ≡ asked_after ld (λ z. 0) before y)
    → ((w : ℕ) → 0 < w → (w ≤ n) ↔ ((w ≤ m) × Weighs w (demand now l) A))
    → Left ld now all m before (l ∷ rest) → Left ld now all n (before ++ (l ∷ [])) rest
left_more ld now m n all before rest l A same found left w h =
    let B : ℕ → ℕ = asked_after ld (λ z. 0) before in
    let next = asked_more ld (λ z. 0) before l in
    let one = found w h in
    let whole = left w h in (
      (λ r.
          let q = one.0 r.0 in
          whole.0 (q.0, (weighs_same w (demand now l) A B same q.1, subst (λ (C : ℕ → ℕ). AllWeigh ld now w C rest) next r.1))),
      (λ r.
          let q = whole.1 r in
          (one.1 (q.0, weighs_same w (demand now l) B A (λ y. sym (same y)) q.1.0), subst (λ (C : ℕ → ℕ). AllWeigh ld now w C rest) (sym next) q.1.1)),
    )
