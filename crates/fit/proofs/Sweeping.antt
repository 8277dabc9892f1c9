-- The allowance by one sweep over the lengths: at each length, what the best length so far leaves to each task bounds the amount.
use Rattle.std.proofs.Common.{◌≡◌, ℕ, zero, suc, ◌+◌, ◌-◌, ◌*◌, ◌/◌, ◌<◌, ◌≤◌, min, max, cond, eqb, ◌↔◌, List, [], ◌∷◌, subst, inl, inr, le-div_iff_mul-le, arith}
use Rattle.std.proofs.lemmas.Bool.{cases_lt, cond_both, eqb-false, eqb-true}
use Rattle.lanes.specs.Demand.{demand}
use Rattle.lanes.specs.Lane.{LaneModel}
use Rattle.fit.proofs.Conversions.{all_weigh_below}
use Rattle.fit.specs.Weighing.{AllWeigh, AllWeighBelow, WeighsBelow}

-- the slack: the most that some length below n leaves, in whole ticks, behind tasks that may ask A
abbrev pub slack_below : (ℕ → ℕ) → ℕ → ℕ
slack_below A zero = 0
slack_below A (suc n) = max (slack_below A n) ((1024 * n - A n) / 1024)

-- some length below n leaves v ticks
abbrev Leaves : (ℕ → ℕ) → ℕ → ℕ → Type 0
Leaves A n v = (y : ℕ) × (y < n) × (1024 * v + A y ≤ 1024 * y)

-- what one length leaves
left_tells : (v n a : ℕ) → 0 < v → (v ≤ (1024 * n - a) / 1024) ↔ (1024 * v + a ≤ 1024 * n)
left_tells v n a h =
    let quotient : (v ≤ (1024 * n - a) / 1024) ↔ (v * 1024 ≤ 1024 * n - a) = le-div_iff_mul-le (omega arith) in
    ((λ le. omega (arith, quotient.0 le)), (λ le. quotient.1 (omega arith)))

slack_more : (A : ℕ → ℕ) (n v : ℕ) → 0 < v → (v ≤ slack_below A n) ↔ Leaves A n v → (v ≤ slack_below A (suc n)) ↔ Leaves A (suc n) v
slack_more A n v h before = (there, back)
  where
    there : v ≤ slack_below A (suc n) → Leaves A (suc n) v
    there le =
        elim (cases_lt (slack_below A n) v) [
          | inl k ↦ (n, omega arith, (left_tells v n (A n) h).0 (omega arith))
          | inr k ↦ let r : Leaves A n v = before.0 k in (r.0, omega (arith, r.1), r.2)
        ]

    back : Leaves A (suc n) v → v ≤ slack_below A (suc n)
    back (y, lt, enough) =
        elim (cases_lt y n) [
          | inl k ↦ omega (arith, before.1 (y, k, enough))
          | inr k ↦
              let e : y ≡ n = omega arith in
              omega (arith, (left_tells v n (A n) h).1 (subst (λ (z : ℕ). 1024 * v + A z ≤ 1024 * z) e enough))
        ]

-- v ticks are within the slack exactly if some length below n leaves them
pub slack_tells : (A : ℕ → ℕ) (n v : ℕ) → 0 < v → (v ≤ slack_below A n) ↔ ((y : ℕ) × (y < n) × (1024 * v + A y ≤ 1024 * y))
slack_tells A zero v h = ((λ le. absurd (omega arith)), (λ r. absurd (omega (arith, r.1))))
slack_tells A (suc n) v h = slack_more A n v h (slack_tells A n v h)

-- a task with the demand d at the length Δ passes with w there
abbrev WeighsAt : ℕ → ℕ → ℕ → (ℕ → ℕ) → Type 0
WeighsAt Δ w d A = 0 < d → (y : ℕ) × (y ≤ Δ) × (1024 * (w + d) + A y ≤ 1024 * y)

-- one task with the demand d at the length Δ: the margin m shrinks to what the slack leaves beside the demand
pub task_tells : (A : ℕ → ℕ) (Δ d m w : ℕ) → 0 < w
    → (w ≤ cond (eqb d 0) m (min m (slack_below A (suc Δ) - d))) ↔ ((w ≤ m) × (0 < d → (y : ℕ) × (y ≤ Δ) × (1024 * (w + d) + A y ≤ 1024 * y)))
task_tells A Δ d m w h =
    cond_both (eqb d 0) m (min m (slack_below A (suc Δ) - d)) (λ x. (w ≤ x) ↔ ((w ≤ m) × WeighsAt Δ w d A))
    (λ e. ((λ le. (le, (λ k. absurd (omega (arith, eqb-true d 0 e))))), (λ r. r.0)))
    (λ e. (there, back (omega (arith, eqb-false d 0 e))))
  where
    slack : (w + d ≤ slack_below A (suc Δ)) ↔ Leaves A (suc Δ) (w + d)
    slack = slack_tells A (suc Δ) (w + d) (omega arith)

    there : w ≤ min m (slack_below A (suc Δ) - d) → (w ≤ m) × WeighsAt Δ w d A
    there le = (omega arith, (λ k. let r : Leaves A (suc Δ) (w + d) = slack.0 (omega arith) in (r.0, omega (arith, r.1), r.2)))

    back : 0 < d → ((w ≤ m) × WeighsAt Δ w d A) → w ≤ min m (slack_below A (suc Δ) - d)
    back k (le, weighs) =
        let r : (y : ℕ) × (y ≤ Δ) × (1024 * (w + d) + A y ≤ 1024 * y) = weighs k in
        omega (arith, slack.1 (r.0, omega (arith, r.1), r.2))

-- what the length Δ leaves of the margin m: the tasks of these lanes shrink it one after another; ld is what one task adds to A
abbrev pub margin_at : (LaneModel → ℕ → ℕ) → ℕ → ℕ → (ℕ → ℕ) → List LaneModel → ℕ → ℕ
margin_at ld now Δ A [] m = m
margin_at ld now Δ A (l ∷ ls) m =
    margin_at ld now Δ (λ y. A y + ld l y) ls (cond (eqb (demand now l Δ) 0) m (min m (slack_below A (suc Δ) - demand now l Δ)))

-- what the lengths below b leave of 1024
abbrev pub margin_below : (LaneModel → ℕ → ℕ) → ℕ → (ℕ → ℕ) → List LaneModel → ℕ → ℕ
margin_below ld now A ls zero = 1024
margin_below ld now A ls (suc b) = margin_at ld now b A ls (margin_below ld now A ls b)

-- every task of these lanes passes with w at the length Δ
abbrev AllWeighAt : (LaneModel → ℕ → ℕ) → ℕ → ℕ → ℕ → (ℕ → ℕ) → List LaneModel → Type 0
AllWeighAt ld now Δ w A [] = Unit {0}
AllWeighAt ld now Δ w A (l ∷ ls) = WeighsAt Δ w (demand now l Δ) A × AllWeighAt ld now Δ w (λ y. A y + ld l y) ls

-- an amount is within what one length leaves exactly if it is within the margin and every task passes with it there
margin_at_tells : (ld : LaneModel → ℕ → ℕ) (now Δ w : ℕ) (A : ℕ → ℕ) (ls : List LaneModel) (m : ℕ) → 0 < w
    → (w ≤ margin_at ld now Δ A ls m) ↔ ((w ≤ m) × AllWeighAt ld now Δ w A ls)
margin_at_tells ld now Δ w A [] m h = ((λ le. (le, tt)), (λ r. r.0))
margin_at_tells ld now Δ w A (l ∷ ls) m h =
    let left : ℕ = cond (eqb (demand now l Δ) 0) m (min m (slack_below A (suc Δ) - demand now l Δ)) in
    let first : (w ≤ left) ↔ ((w ≤ m) × WeighsAt Δ w (demand now l Δ) A) = task_tells A Δ (demand now l Δ) m w h in
    let rest : (w ≤ margin_at ld now Δ (λ y. A y + ld l y) ls left) ↔ ((w ≤ left) × AllWeighAt ld now Δ w (λ y. A y + ld l y) ls) =
    margin_at_tells ld now Δ w (λ y. A y + ld l y) ls left h in (
      (λ le. ((first.0 (rest.0 le).0).0, ((first.0 (rest.0 le).0).1, (rest.0 le).1))),
      (λ r. rest.1 (first.1 (r.0, r.1.0), r.1.1)),
    )

-- below the length 0 there is nothing to weigh
weigh_none : (ld : LaneModel → ℕ → ℕ) (now w : ℕ) (A : ℕ → ℕ) (ls : List LaneModel) → AllWeighBelow ld 0 now w A ls
weigh_none ld now w A [] = tt
weigh_none ld now w A (l ∷ ls) = ((λ Δ lt h. absurd (omega arith)), weigh_none ld now w (λ y. A y + ld l y) ls)

-- one more length
weigh_more : (ld : LaneModel → ℕ → ℕ) (b now w : ℕ) (A : ℕ → ℕ) (ls : List LaneModel)
    → AllWeighBelow ld (suc b) now w A ls ↔ (AllWeighBelow ld b now w A ls × AllWeighAt ld now b w A ls)
weigh_more ld b now w A [] = ((λ _. (tt, tt)), (λ _. tt))
weigh_more ld b now w A (l ∷ ls) =
    let J : ℕ → ℕ = λ y. A y + ld l y in
    let rest : AllWeighBelow ld (suc b) now w J ls ↔ (AllWeighBelow ld b now w J ls × AllWeighAt ld now b w J ls) = weigh_more ld b now w J ls in (
      (λ f. (((λ Δ lt h. f.0 Δ (omega arith) h), (rest.0 f.1).0), ((λ h. f.0 b (omega arith) h), (rest.0 f.1).1))),
      (λ r. (both r.0.0 r.1.0, rest.1 (r.0.1, r.1.1))),
    )
  where
    both : WeighsBelow b w (demand now l) A → WeighsAt b w (demand now l b) A → WeighsBelow (suc b) w (demand now l) A
    both below here Δ lt h =
        elim (cases_lt Δ b) [
          | inl k ↦ below Δ k h
          | inr k ↦ let e : b ≡ Δ = omega arith in subst (λ (x : ℕ). WeighsAt x w (demand now l x) A) e here h
        ]

-- an amount is within what the lengths below b leave exactly if it is at most 1024 and every task passes with it there
pub margin_tells : (ld : LaneModel → ℕ → ℕ) (now w : ℕ) (A : ℕ → ℕ) (ls : List LaneModel) (b : ℕ) → 0 < w
    → (w ≤ margin_below ld now A ls b) ↔ ((w ≤ 1024) × AllWeighBelow ld b now w A ls)
margin_tells ld now w A ls zero h = ((λ le. (le, weigh_none ld now w A ls)), (λ r. r.0))
margin_tells ld now w A ls (suc b) h =
    let m : ℕ = margin_below ld now A ls b in
    let before : (w ≤ m) ↔ ((w ≤ 1024) × AllWeighBelow ld b now w A ls) = margin_tells ld now w A ls b h in
    let here : (w ≤ margin_at ld now b A ls m) ↔ ((w ≤ m) × AllWeighAt ld now b w A ls) = margin_at_tells ld now b w A ls m h in
    let more : AllWeighBelow ld (suc b) now w A ls ↔ (AllWeighBelow ld b now w A ls × AllWeighAt ld now b w A ls) = weigh_more ld b now w A ls in (
      (λ le. ((before.0 (here.0 le).0).0, more.1 ((before.0 (here.0 le).0).1, (here.0 le).1))),
      (λ r. here.1 (before.1 (r.0, (more.0 r.1).0), (more.0 r.1).1)),
    )

-- a length never widens the margin
pub margin_at_most : (ld : LaneModel → ℕ → ℕ) (now Δ : ℕ) (A : ℕ → ℕ) (ls : List LaneModel) (m : ℕ) → margin_at ld now Δ A ls m ≤ m
margin_at_most ld now Δ A [] m = omega arith
margin_at_most ld now Δ A (l ∷ ls) m =
    let left : ℕ = cond (eqb (demand now l Δ) 0) m (min m (slack_below A (suc Δ) - demand now l Δ)) in
    let less : left ≤ m = cond_both (eqb (demand now l Δ) 0) m (min m (slack_below A (suc Δ) - demand now l Δ)) (λ x. x ≤ m) (λ e. omega arith) (λ e. omega arith) in
    omega (arith, margin_at_most ld now Δ (λ y. A y + ld l y) ls left)

pub margin_top : (ld : LaneModel → ℕ → ℕ) (now : ℕ) (A : ℕ → ℕ) (ls : List LaneModel) (b : ℕ) → margin_below ld now A ls b ≤ 1024
margin_top ld now A ls zero = omega arith
margin_top ld now A ls (suc b) = omega (arith, margin_at_most ld now b A ls (margin_below ld now A ls b), margin_top ld now A ls b)

-- the margin never rises as the sweep goes on
pub margin_falls : (ld : LaneModel → ℕ → ℕ) (now : ℕ) (A : ℕ → ℕ) (ls : List LaneModel) (b c : ℕ) → b ≤ c → margin_below ld now A ls c ≤ margin_below ld now A ls b
margin_falls ld now A ls b zero h = let e : b ≡ 0 = omega arith in rw e (omega arith)
margin_falls ld now A ls b (suc c) h =
    elim (cases_lt c b) [
      | inl k ↦ let e : b ≡ suc c = omega arith in rw e (omega arith)
      | inr k ↦ omega (arith, margin_at_most ld now c A ls (margin_below ld now A ls c), margin_falls ld now A ls b c k)
    ]

-- a sweep that stops at b, where no later length decides for an amount within the margin, has found the allowance
pub sweep_finds : (ld : LaneModel → ℕ → ℕ) (now : ℕ) (ls : List LaneModel) (b : ℕ)
    → ((w : ℕ) → w ≤ margin_below ld now (λ y. 0) ls b → AllWeighBelow ld b now w (λ y. 0) ls → AllWeigh ld now w (λ y. 0) ls)
    → (w : ℕ) → 0 < w → (w ≤ margin_below ld now (λ y. 0) ls b) ↔ ((w ≤ 1024) × AllWeigh ld now w (λ y. 0) ls)
sweep_finds ld now ls b far w h = (
  (λ le. let r : (w ≤ 1024) × AllWeighBelow ld b now w (λ y. 0) ls = tells.0 le in (r.0, far w le r.1)),
  (λ r. tells.1 (r.0, all_weigh_below ld b now w (λ y. 0) ls r.1)),
)
  where
    tells : (w ≤ margin_below ld now (λ y. 0) ls b) ↔ ((w ≤ 1024) × AllWeighBelow ld b now w (λ y. 0) ls)
    tells = margin_tells ld now w (λ y. 0) ls b h
