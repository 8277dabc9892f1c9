-- The search for the first task that does not fit: what its loop over the lengths has found of one task so far.
use Rattle.std.proofs.Common.{◌≡◌, ℕ, suc, ◌+◌, ◌-◌, ◌*◌, ◌<◌, ◌≤◌, cond, leb, List, [], ◌∷◌, ap, subst, inl, inr, mul-le-mul_left, mul-le-mul_right, arith}
use Rattle.std.proofs.lemmas.Bool.{cases_lt}
use Rattle.std.proofs.lemmas.Bool.Decides.{nat_tests}
use Rattle.fit.proofs.Counting.{arrivals_rise, steps_above}
use Rattle.fit.specs.Weighing.{Weighs, WeighsBelow}
use Rattle.fit.specs.WellFormed.{LaneFormed}
use Rattle.lanes.specs.Demand.{demand}
use Rattle.lanes.specs.Job.{due_by}
use Rattle.lanes.specs.Lane.{LaneModel}
use Rattle.lanes.specs.declared.job.Job.{Job}
use Rattle.search.specs.Ahead.{TooShort}

part_rises : (due n t u : ℕ) → t ≤ u → cond (leb due t) n 0 ≤ cond (leb due u) n 0
part_rises due n t u h = grind (arith, nat_tests)

due_rises : (t u : ℕ) (js : List Job) → t ≤ u → due_by t js ≤ due_by u js
due_rises t u [] h = omega arith
due_rises t u (j ∷ js) h = omega (arith, part_rises j.due j.remaining t u h, due_rises t u js h)

-- the demand does not fall with the length
pub demand_rises : (now : ℕ) (l : LaneModel) → LaneFormed l → (Δ x : ℕ) → Δ ≤ x → demand now l Δ ≤ demand now l x
demand_rises now l ok Δ x h =
    omega (
      arith,
      due_rises (now + Δ) (now + x) l.pending (omega arith),
      mul-le-mul_left l.task.limit (arrivals_rise (suc Δ - l.task.deadline) (suc x - l.task.deadline) l.buckets (omega arith) (steps_above l ok)),
    )

-- the lengths below Δ and Δ itself are those below Δ + 1
pub weighs_more : (w Δ : ℕ) (d A : ℕ → ℕ) → WeighsBelow Δ w d A → (0 < d Δ → (y : ℕ) × (y ≤ Δ) × (1024 * (w + d Δ) + A y ≤ 1024 * y)) → WeighsBelow (Δ + 1) w d A
weighs_more w Δ d A below here x lt h =
    elim (cases_lt x Δ) [
      | inl k ↦ below x k h
      | inr k ↦ let e : Δ ≡ x = omega arith in subst (λ (z : ℕ). 0 < d z → (y : ℕ) × (y ≤ z) × (1024 * (w + d z) + A y ≤ 1024 * y)) e here h
    ]

-- the tasks together ask at most for the work a that stands and for the shares S, and leave enough of the processor free from the length Δ
-- on: then each of these lengths is itself enough with every amount up to m
pub long_enough : (a S : ℕ) → S ≤ 960 → (d A : ℕ → ℕ) → ((y : ℕ) → 1024 * d y + A y ≤ 1024 * a + S * y) → (m Δ w : ℕ)
    → 1024 * (m + a) ≤ Δ * (1024 - S) → w ≤ m → WeighsBelow Δ w d A → Weighs w d A
long_enough a S light d A asked m Δ w far le below x some =
    elim (cases_lt x Δ) [
      | inl short ↦ below x short some
      | inr long ↦
          let whole : 1024 - S + S ≡ 1024 = omega arith in
          (x, omega arith, omega (arith, asked x, far, le, mul-le-mul_right (1024 - S) long, ap (λ z. x * z) whole))
    ]

-- The search for a task with the demand d behind tasks that may ask A has come to the length Δ, and `enough` to the length e:
-- with w the task passes at the lengths below Δ, and no length below e is enough for Δ or a longer one.
pub record Searched (w : ℕ) (d A : ℕ → ℕ) (Δ e : ℕ) : Type 0 where
  pub passes : WeighsBelow Δ w d A
  pub short : (y x : ℕ) → y < e → Δ ≤ x → 1024 * y < 1024 * (w + d x) + A y

module _ {w : ℕ} {d A : ℕ → ℕ} {Δ e : ℕ} (s : Searched w d A Δ e) where
  -- nothing is asked at Δ
  pub searched_idle : d Δ ≡ 0 → Searched w d A (Δ + 1) e
  searched_idle none =
      record {
        passes = weighs_more w Δ d A s.passes (λ some. absurd (omega arith));
        short = λ y x lt h. s.short y x lt (omega arith);
      }

  -- n is the first length from e on that is enough for Δ
  pub searched_enough : (n : ℕ) → ((x : ℕ) → Δ ≤ x → d Δ ≤ d x) → n ≤ Δ → 1024 * (w + d Δ) + A n ≤ 1024 * n → TooShort (w + d Δ) A e n → Searched w d A (Δ + 1) n
  searched_enough n rises within enough before =
      record {
        passes = weighs_more w Δ d A s.passes (λ some. (n, within, enough));
        short = λ y x lt h. elim (cases_lt y e) [
          | inl below ↦ s.short y x below (omega arith)
          | inr from ↦ omega (arith, before y from lt, rises x (omega arith))
        ];
      }

  -- no length up to Δ is enough for Δ
  pub searched_misfit : 0 < d Δ → TooShort (w + d Δ) A e (Δ + 1) → Weighs w d A → ⊥
  searched_misfit some short weighs =
      let r : (y : ℕ) × (y ≤ Δ) × (1024 * (w + d Δ) + A y ≤ 1024 * y) = weighs Δ some in
      elim (cases_lt r.0 e) [
        | inl below ↦ omega (arith, r.2, s.short r.0 Δ below (omega arith))
        | inr from ↦ omega (arith, r.2, short r.0 from (omega (arith, r.1)))
      ]
