-- To fit, and to pass, is to be weighed: the exact rule by the load of each task in 1024ths, the line rule by the line of each task.
use Rattle.std.proofs.Common.{◌≡◌, ℕ, ◌+◌, ◌-◌, ◌*◌, ◌≤◌, ◌↔◌, List, [], ◌∷◌, mul-le-mul_right, add-mul, mul-le-mul_left, arith}
use native.Mathlib.Nat.{mul-sub}
use Rattle.tasks.specs.Task.{share}
use Rattle.lanes.specs.Demand.{demand, load}
use Rattle.fit.specs.Fit.{AllFit}
use Rattle.tasks.specs.TaskSet.{shares}
use Rattle.lanes.specs.Lane.{LaneModel, tasks_of}
use Rattle.fit.specs.Line.{AllPass}
use Rattle.lanes.specs.Line.{line_load, line_start}
use Rattle.fit.proofs.Decisions.{AllFitBelow, AllPassBelow}
use Rattle.fit.specs.Weighing.{AllWeigh, AllWeighBelow}

-- the load of a task in 1024ths
abbrev pub scaled_load : LaneModel → ℕ → ℕ
scaled_load l y = 1024 * load l y

-- some length up to Δ is enough for v ticks behind I, and for v 1024ths behind A
abbrev Enough : ℕ → ℕ → (ℕ → ℕ) → Type 0
Enough v Δ I = (y : ℕ) × (y ≤ Δ) × (v + I y ≤ y)

abbrev EnoughScaled : ℕ → ℕ → (ℕ → ℕ) → Type 0
EnoughScaled v Δ A = (y : ℕ) × (y ≤ Δ) × (v + A y ≤ 1024 * y)

-- the exact rule

-- a length is enough in ticks exactly if it is in 1024ths
enough_scales : (v Δ : ℕ) (I A : ℕ → ℕ) → ((y : ℕ) → A y ≡ 1024 * I y) → Enough v Δ I ↔ EnoughScaled (1024 * v) Δ A
enough_scales v Δ I A same = ((λ r. (r.0, r.1, omega (arith, r.2, same r.0))), (λ r. (r.0, r.1, omega (arith, r.2, same r.0))))

-- the loads so far stay 1024 times as large when the load m of one more task is added
scaled_sum : (i a m : ℕ) → a ≡ 1024 * i → a + 1024 * m ≡ 1024 * (i + m)
scaled_sum i a m e = omega arith

pub all_fit_weigh : (now w : ℕ) (I A : ℕ → ℕ) (ls : List LaneModel) → ((y : ℕ) → A y ≡ 1024 * I y) → AllFit now w I ls ↔ AllWeigh scaled_load now w A ls
all_fit_weigh now w I A [] same = ((λ _. tt), (λ _. tt))
all_fit_weigh now w I A (l ∷ ls) same =
    let here : (Δ : ℕ) → Enough (w + demand now l Δ) Δ I ↔ EnoughScaled (1024 * (w + demand now l Δ)) Δ A = λ Δ. enough_scales (w + demand now l Δ) Δ I A same in
    let rest : AllFit now w (λ y. I y + load l y) ls ↔ AllWeigh scaled_load now w (λ y. A y + scaled_load l y) ls =
    all_fit_weigh now w (λ y. I y + load l y) (λ y. A y + scaled_load l y) ls (λ y. scaled_sum (I y) (A y) (load l y) (same y)) in (
      (λ fit. ((λ Δ h. (here Δ).0 (fit.0 Δ h)), rest.0 fit.1)),
      (λ weigh. ((λ Δ h. (here Δ).1 (weigh.0 Δ h)), rest.1 weigh.1)),
    )

pub all_fit_weigh_below : (b now w : ℕ) (I A : ℕ → ℕ) (ls : List LaneModel) → ((y : ℕ) → A y ≡ 1024 * I y)
    → AllFitBelow b now w I ls ↔ AllWeighBelow scaled_load b now w A ls
all_fit_weigh_below b now w I A [] same = ((λ _. tt), (λ _. tt))
all_fit_weigh_below b now w I A (l ∷ ls) same =
    let here : (Δ : ℕ) → Enough (w + demand now l Δ) Δ I ↔ EnoughScaled (1024 * (w + demand now l Δ)) Δ A = λ Δ. enough_scales (w + demand now l Δ) Δ I A same in
    let rest : AllFitBelow b now w (λ y. I y + load l y) ls ↔ AllWeighBelow scaled_load b now w (λ y. A y + scaled_load l y) ls =
    all_fit_weigh_below b now w (λ y. I y + load l y) (λ y. A y + scaled_load l y) ls (λ y. scaled_sum (I y) (A y) (load l y) (same y)) in (
      (λ fit. ((λ Δ lt h. (here Δ).0 (fit.0 Δ lt h)), rest.0 fit.1)),
      (λ weigh. ((λ Δ lt h. (here Δ).1 (weigh.0 Δ lt h)), rest.1 weigh.1)),
    )

-- the line rule

-- A rises by at most s from one length to the next
abbrev pub RisesBy : ℕ → (ℕ → ℕ) → Type 0
RisesBy s A = (y z : ℕ) → y ≤ z → A z + s * y ≤ A y + s * z

-- no task: nothing rises
pub flat_rises : RisesBy 0 (λ y. 0)
flat_rises y z h = omega arith

-- the lines so far rise by one share more when one more line is added
rises_more : (s : ℕ) (A : ℕ → ℕ) (l : LaneModel) → RisesBy s A → RisesBy (s + share l.task) (λ y. A y + line_load l y)
rises_more s A l rises y z h = sum_rises (A y) (A z) (line_start l) (share l.task) (rises y z h)
  where
    sum_rises : (a b start t : ℕ) → b + s * y ≤ a + s * z → b + (start + t * z) + (s + t) * y ≤ a + (start + t * y) + (s + t) * z
    sum_rises a b start t k = omega (arith, add-mul s t y, add-mul s t z)

-- where the lines a at y and b at z rise by at most s ≤ 1024 a length, z is enough if the shorter y is
longer_is_enough : (s v y z a b : ℕ) → s ≤ 1024 → y ≤ z → b + s * y ≤ a + s * z → v + a ≤ 1024 * y → v + b ≤ 1024 * z
longer_is_enough s v y z a b slow le rises enough = omega (arith, mul-le-mul_right (z - y) slow, mul-sub s z y, mul-le-mul_left s le)

-- some length up to Δ is enough exactly if Δ itself is
enough_at_end : (s v Δ : ℕ) (A : ℕ → ℕ) → s ≤ 1024 → RisesBy s A → (v + A Δ ≤ 1024 * Δ) ↔ EnoughScaled v Δ A
enough_at_end s v Δ A slow rises = (
  (λ enough. (Δ, omega arith, enough)),
  (λ r. longer_is_enough s v r.0 Δ (A r.0) (A Δ) slow r.1 (rises r.0 Δ r.1) r.2),
)

pub all_pass_weigh : (s now w : ℕ) (A : ℕ → ℕ) (ls : List LaneModel) → RisesBy s A → s + shares (tasks_of ls) ≤ 1024
    → AllPass now w A ls ↔ AllWeigh line_load now w A ls
all_pass_weigh s now w A [] rises h = ((λ _. tt), (λ _. tt))
all_pass_weigh s now w A (l ∷ ls) rises h =
    let here : (Δ : ℕ) → (1024 * (w + demand now l Δ) + A Δ ≤ 1024 * Δ) ↔ EnoughScaled (1024 * (w + demand now l Δ)) Δ A =
    λ Δ. enough_at_end s (1024 * (w + demand now l Δ)) Δ A (omega arith) rises in
    let rest : AllPass now w (λ y. A y + line_load l y) ls ↔ AllWeigh line_load now w (λ y. A y + line_load l y) ls =
    all_pass_weigh (s + share l.task) now w (λ y. A y + line_load l y) ls (rises_more s A l rises) (omega arith) in (
      (λ pass. ((λ Δ k. (here Δ).0 (pass.0 Δ k)), rest.0 pass.1)),
      (λ weigh. ((λ Δ k. (here Δ).1 (weigh.0 Δ k)), rest.1 weigh.1)),
    )

pub all_pass_weigh_below : (s b now w : ℕ) (A : ℕ → ℕ) (ls : List LaneModel) → RisesBy s A → s + shares (tasks_of ls) ≤ 1024
    → AllPassBelow b now w A ls ↔ AllWeighBelow line_load b now w A ls
all_pass_weigh_below s b now w A [] rises h = ((λ _. tt), (λ _. tt))
all_pass_weigh_below s b now w A (l ∷ ls) rises h =
    let here : (Δ : ℕ) → (1024 * (w + demand now l Δ) + A Δ ≤ 1024 * Δ) ↔ EnoughScaled (1024 * (w + demand now l Δ)) Δ A =
    λ Δ. enough_at_end s (1024 * (w + demand now l Δ)) Δ A (omega arith) rises in
    let rest : AllPassBelow b now w (λ y. A y + line_load l y) ls ↔ AllWeighBelow line_load b now w (λ y. A y + line_load l y) ls =
    all_pass_weigh_below (s + share l.task) b now w (λ y. A y + line_load l y) ls (rises_more s A l rises) (omega arith) in (
      (λ pass. ((λ Δ lt k. (here Δ).0 (pass.0 Δ lt k)), rest.0 pass.1)),
      (λ weigh. ((λ Δ lt k. (here Δ).1 (weigh.0 Δ lt k)), rest.1 weigh.1)),
    )

-- a smaller amount v fits, passes and weighs where w does

pub all_fit_with_less : (now v w : ℕ) (I : ℕ → ℕ) (ls : List LaneModel) → v ≤ w → AllFit now w I ls → AllFit now v I ls
all_fit_with_less now v w I [] h fit = tt
all_fit_with_less now v w I (l ∷ ls) h fit = (
  (λ Δ k. let r : Enough (w + demand now l Δ) Δ I = fit.0 Δ k in (r.0, r.1, omega (arith, r.2))),
  all_fit_with_less now v w (λ y. I y + load l y) ls h fit.1,
)

pub all_pass_with_less : (now v w : ℕ) (A : ℕ → ℕ) (ls : List LaneModel) → v ≤ w → AllPass now w A ls → AllPass now v A ls
all_pass_with_less now v w A [] h pass = tt
all_pass_with_less now v w A (l ∷ ls) h pass = (
  (λ Δ k. omega (arith, pass.0 Δ k)),
  all_pass_with_less now v w (λ y. A y + line_load l y) ls h pass.1,
)

pub all_weigh_with_less : (ld : LaneModel → ℕ → ℕ) (now v w : ℕ) (A : ℕ → ℕ) (ls : List LaneModel) → v ≤ w → AllWeigh ld now w A ls → AllWeigh ld now v A ls
all_weigh_with_less ld now v w A [] h weigh = tt
all_weigh_with_less ld now v w A (l ∷ ls) h weigh = (
  (λ Δ k. let r : EnoughScaled (1024 * (w + demand now l Δ)) Δ A = weigh.0 Δ k in (r.0, r.1, omega (arith, r.2))),
  all_weigh_with_less ld now v w (λ y. A y + ld l y) ls h weigh.1,
)

pub all_weigh_below_with_less : (ld : LaneModel → ℕ → ℕ) (b now v w : ℕ) (A : ℕ → ℕ) (ls : List LaneModel) → v ≤ w
    → AllWeighBelow ld b now w A ls → AllWeighBelow ld b now v A ls
all_weigh_below_with_less ld b now v w A [] h weigh = tt
all_weigh_below_with_less ld b now v w A (l ∷ ls) h weigh = (
  (λ Δ lt k. let r : EnoughScaled (1024 * (w + demand now l Δ)) Δ A = weigh.0 Δ lt k in (r.0, r.1, omega (arith, r.2))),
  all_weigh_below_with_less ld b now v w (λ y. A y + ld l y) ls h weigh.1,
)

-- what holds at every length holds at those below b

pub all_fit_below : (b now w : ℕ) (I : ℕ → ℕ) (ls : List LaneModel) → AllFit now w I ls → AllFitBelow b now w I ls
all_fit_below b now w I [] fit = tt
all_fit_below b now w I (l ∷ ls) fit = ((λ Δ lt h. fit.0 Δ h), all_fit_below b now w (λ y. I y + load l y) ls fit.1)

pub all_pass_below : (b now w : ℕ) (A : ℕ → ℕ) (ls : List LaneModel) → AllPass now w A ls → AllPassBelow b now w A ls
all_pass_below b now w A [] pass = tt
all_pass_below b now w A (l ∷ ls) pass = ((λ Δ lt h. pass.0 Δ h), all_pass_below b now w (λ y. A y + line_load l y) ls pass.1)

pub all_weigh_below : (ld : LaneModel → ℕ → ℕ) (b now w : ℕ) (A : ℕ → ℕ) (ls : List LaneModel) → AllWeigh ld now w A ls → AllWeighBelow ld b now w A ls
all_weigh_below ld b now w A [] weigh = tt
all_weigh_below ld b now w A (l ∷ ls) weigh = ((λ Δ lt h. weigh.0 Δ h), all_weigh_below ld b now w (λ y. A y + ld l y) ls weigh.1)
