-- The first task that does not fit: there is one right answer, the search for it goes far enough, and with too large an amount no task fits.
use Rattle.std.proofs.Common.{◌≡◌, ℕ, zero, suc, ◌+◌, ◌-◌, ◌*◌, ◌/◌, ◌<◌, ◌≤◌, min, List, [], ◌∷◌, map, length, Some, None, Option, sym, refl, ap, ◌∙◌, subst, inl, inr, mul-le-mul_right, mul-le-mul, mul-le-mul_left, le-div_iff_mul-le, arith}
use Rattle.std.proofs.lemmas.Bool.{cases_lt}
use Rattle.std.specs.List.{AllByRecursion}
use Rattle.arrivals.specs.Bucket.{BucketModel, arrivals_within, bucket_allows}
use Rattle.arrivals.specs.Counter.{age}
use Rattle.lanes.specs.Demand.{demand, load}
use Rattle.lanes.specs.Lane.{LaneModel, tasks_of}
use Rattle.lanes.specs.Standing.{standing}
use Rattle.tasks.specs.TaskSet.{peak_of_tasks, peak_work, shares}
use Rattle.fit.specs.Fit.{AllFit, FirstMisfit, Fits, MisfitAfter}
use Rattle.fit.specs.Search.{first_misfit}
use Rattle.fit.specs.WellFormed.{LaneFormed, StaircaseFormed}
use Rattle.fit.proofs.Horizons.{horizon_is_far, long_length_suffices}
use Rattle.fit.proofs.Misfits.{FarEnough, misfit_found}
use Rattle.fit.proofs.Rates.{load_rate}

-- one right answer

fit_or_misfit : (now w : ℕ) (I : ℕ → ℕ) (k : ℕ) (ls : List LaneModel) → AllFit now w I ls → MisfitAfter now w I k ls → ⊥
fit_or_misfit now w I k [] all misfit = misfit
fit_or_misfit now w I zero (l ∷ ls) all misfit = misfit all.0
fit_or_misfit now w I (suc k) (l ∷ ls) all misfit = fit_or_misfit now w (λ y. I y + load l y) k ls all.1 misfit.1

one_misfit : (now w : ℕ) (I : ℕ → ℕ) (j k : ℕ) (ls : List LaneModel) → MisfitAfter now w I j ls → MisfitAfter now w I k ls → j ≡ k
one_misfit now w I j k [] a b = absurd a
one_misfit now w I zero zero (l ∷ ls) a b = refl
one_misfit now w I zero (suc k) (l ∷ ls) a b = absurd (a b.0)
one_misfit now w I (suc j) zero (l ∷ ls) a b = absurd (b a.0)
one_misfit now w I (suc j) (suc k) (l ∷ ls) a b = ap suc (one_misfit now w (λ y. I y + load l y) j k ls a.1 b.1)

pub one_answer : (now w : ℕ) (ls : List LaneModel) (o p : Option ℕ) → FirstMisfit now w ls o → FirstMisfit now w ls p → o ≡ p
one_answer now w ls None None a b = refl
one_answer now w ls None (Some n) a (k, e, misfit) = absurd (fit_or_misfit now w (λ y. 0) k ls a misfit)
one_answer now w ls (Some m) None (j, e, misfit) b = absurd (fit_or_misfit now w (λ y. 0) j ls b misfit)
one_answer now w ls (Some m) (Some n) (j, e, a) (k, f, b) = ap Some (e ∙ ap suc (one_misfit now w (λ y. 0) j k ls a b) ∙ sym f)

-- how far the search goes

-- what is far enough for the standing work a and the shares S is so for less of both
far_for_less : (w a S c T b : ℕ) → c ≤ a → T ≤ S → 1024 * (w + a) ≤ b * (1024 - S) → 1024 * (w + c) ≤ b * (1024 - T)
far_for_less w a S c T b ha hS far = omega (arith, mul-le-mul_left {m = 1024 - S} {n = 1024 - T} b (omega arith))

-- of the tasks of `before` and of these lanes together stands at most a, and their shares sum to at most S
pub far_enough : (b now w a S : ℕ) (I : ℕ → ℕ) (before ls : List LaneModel) → AllByRecursion LaneFormed ls
    → ((y : ℕ) → 1024 * I y ≤ 1024 * standing before + shares (tasks_of before) * y)
    → standing before + standing ls ≤ a → shares (tasks_of before) + shares (tasks_of ls) ≤ S
    → 1024 * (w + a) ≤ suc b * (1024 - S) → FarEnough b now w I ls
far_enough b now w a S I before [] ok hI ha hS far = tt
far_enough b now w a S I before (l ∷ ls) ok hI ha hS far = (
  (λ below Δ some. elim (cases_lt Δ (suc b)) [
    | inl short ↦ below Δ short some
    | inr long ↦ (Δ, omega arith, omega (arith, long_length_suffices now w (suc b) (1024 * I Δ) before l ok.0 here w Δ (omega arith) long (hI Δ)))
  ]),
  far_enough b now w a S (λ y. I y + load l y) (l ∷ before) ls ok.1 (λ y. omega (arith, hI y, load_rate l ok.0 y)) (omega arith) (omega arith) far,
)
  where
    here : 1024 * (w + standing (l ∷ before)) ≤ suc b * (1024 - shares (tasks_of (l ∷ before)))
    here = far_for_less w a S (standing (l ∷ before)) (shares (tasks_of (l ∷ before))) (suc b) (omega arith) (omega arith) far

past_horizon : (w a p S : ℕ) → 1024 * (w + a) ≤ 16 * (p + w) * (1024 - S) → 1024 * (w + a) ≤ suc (16 * (1024 + p + w)) * (1024 - S)
past_horizon w a p S far = omega (arith, mul-le-mul_right {m = 16 * (p + w)} {n = suc (16 * (1024 + p + w))} (1024 - S) (omega arith))

-- the search finds the first task that does not fit at some length, however long
pub search_finds : (now w : ℕ) (ls : List LaneModel) → AllByRecursion LaneFormed ls → shares (tasks_of ls) ≤ 960 → FirstMisfit now w ls (first_misfit now w ls)
unfolding first_misfit
search_finds now w ls ok light =
    misfit_found (16 * (peak_work (tasks_of ls) + w)) now w ls
    (far_enough (16 * (peak_work (tasks_of ls) + w)) now w (standing ls) (shares (tasks_of ls)) (λ y. 0) [] ls ok (λ y. omega arith) (omega arith) (omega arith)
    (past_horizon w (standing ls) (peak_of_tasks (tasks_of ls)) (shares (tasks_of ls)) (horizon_is_far w ls light ok)))

-- too large an amount

-- within a longest step and one instant more each staircase allows an arrival
bucket_allows_one : (b : BucketModel) → StaircaseFormed b.staircase → 1 ≤ bucket_allows 4097 b
bucket_allows_one b ok =
    let one : 1 ≤ (4096 + age b.counter) / b.staircase.step = (le-div_iff_mul-le ok.step_above).1 (omega (arith, ok.step_below)) in
    omega arith

one_arrival : (bs : List BucketModel) → AllByRecursion StaircaseFormed (map (λ b. b.staircase) bs) → 1 ≤ length (map (λ b. b.staircase) bs) → 1 ≤ arrivals_within 4097 bs
one_arrival [] ok some = absurd (omega arith)
one_arrival (b ∷ []) ok some = bucket_allows_one b ok.0
one_arrival (b ∷ c ∷ bs) ok some = omega (arith, bucket_allows_one b ok.0, one_arrival (c ∷ bs) ok.1 (omega arith))

-- a job can be due within a deadline and the longest step
some_demand : (now : ℕ) (l : LaneModel) → LaneFormed l → 0 < demand now l (l.task.deadline + 4096)
some_demand now l ok =
    let instants : suc (l.task.deadline + 4096) - l.task.deadline ≡ 4097 = omega arith in
    let one : 1 ≤ arrivals_within 4097 l.buckets =
    one_arrival l.buckets (subst (AllByRecursion StaircaseFormed) (sym ok.own) ok.task.staircases) (omega (arith, ap length ok.own, ok.task.some_staircase)) in
    omega (arith, mul-le-mul ok.task.limit_above one, ap (λ x. l.task.limit * arrivals_within x l.buckets) instants)

no_task_fits : (now w : ℕ) (I : ℕ → ℕ) (l : LaneModel) → LaneFormed l → 5120 ≤ w → Fits w (demand now l) I → ⊥
no_task_fits now w I l ok large fits = none (fits (l.task.deadline + 4096) (some_demand now l ok))
  where
    none : (y : ℕ) × (y ≤ l.task.deadline + 4096) × (w + demand now l (l.task.deadline + 4096) + I y ≤ y) → ⊥
    none (y, le, enough) = omega (arith, some_demand now l ok, ok.task.deadline_below)

-- two amounts with which no task fits have the same first misfit
same_misfit : (now v w : ℕ) (ls : List LaneModel) (o : Option ℕ) → AllByRecursion LaneFormed ls → 5120 ≤ v → 5120 ≤ w → FirstMisfit now v ls o → FirstMisfit now w ls o
same_misfit now v w [] None ok hv hw found = tt
same_misfit now v w [] (Some n) ok hv hw (k, e, misfit) = absurd misfit
same_misfit now v w (l ∷ ls) None ok hv hw found = absurd (no_task_fits now v (λ y. 0) l ok.0 hv found.0)
same_misfit now v w (l ∷ ls) (Some n) ok hv hw (zero, e, misfit) = (0, e, no_task_fits now w (λ y. 0) l ok.0 hw)
same_misfit now v w (l ∷ ls) (Some n) ok hv hw (suc k, e, misfit) = absurd (no_task_fits now v (λ y. 0) l ok.0 hv misfit.0)

-- so a search may take 5120 for every larger amount
pub enough_to_search : (now w : ℕ) (ls : List LaneModel) (o : Option ℕ) → AllByRecursion LaneFormed ls → FirstMisfit now (min w 5120) ls o → FirstMisfit now w ls o
enough_to_search now w ls o ok found =
    elim (cases_lt w 5120) [
      | inl small ↦ let same : min w 5120 ≡ w = omega arith in subst (λ (v : ℕ). FirstMisfit now v ls o) same found
      | inr large ↦ same_misfit now (min w 5120) w ls o ok (omega arith) large found
    ]
