-- How fast the load of a task rises: from its backlog and a burst on by the share of its long staircase, and the line lies between.
use Rattle.std.proofs.Common.{◌≡◌, ℕ, zero, suc, ◌+◌, ◌-◌, ◌*◌, ◌/◌, ◌<◌, ◌≤◌, min, Bool, true, false, cond, ltb, leb, List, [], ◌∷◌, map, length, sym, refl, ap, ◌∙◌, subst, mul-le-mul_right, mul-le-mul_left, arith}
use native.Mathlib.Nat.{add-div_right, lt-div-mul-add, mul-div-le}
use Rattle.std.proofs.ByRecursion.{all-has, All-weaker}
use Rattle.std.proofs.lemmas.List.{length-map}
use Rattle.std.proofs.lemmas.Bool.{and_parts, cond_both, ltb-true}
use Rattle.std.specs.List.{AllByRecursion}
use Rattle.arrivals.proofs.Quotients.{quotient_rises}
use Rattle.arrivals.specs.Bucket.{BucketModel, arrivals_within, bucket_allows, long_bucket}
use Rattle.arrivals.specs.Counter.{age, sound, tokens}
use Rattle.arrivals.specs.declared.counter.Counter.{Counter}
use Rattle.arrivals.specs.declared.counter.Counter.TheVariants.{Full, Short}
use Rattle.tasks.proofs.LongStaircase.{long_of}
use Rattle.tasks.specs.Least.{least}
use Rattle.tasks.specs.Staircase.{StaircaseModel, long_staircase, longer, longest, longest_by}
use Rattle.tasks.specs.Task.{TaskModel, share}
use Rattle.fit.proofs.Counting.{arrivals_at_none, arrivals_rise, steps_above}
use Rattle.lanes.specs.Demand.{demand, load}
use Rattle.tasks.specs.TaskSet.{long_burst}
use Rattle.lanes.specs.Job.{backlog, due_by}
use Rattle.lanes.specs.Lane.{LaneModel}
use Rattle.lanes.specs.Line.{line_load, line_start}
use Rattle.fit.specs.WellFormed.{LaneFormed, StaircaseFormed, TaskFormed}
use Rattle.lanes.specs.declared.job.Job.{Job}

-- the least is at most the number of each element
least_at_most_each : {A : Type 0} (f : A → ℕ) (xs : List A) → AllByRecursion (λ x. least f xs ≤ f x) xs
least_at_most_each f [] = tt
least_at_most_each f (x ∷ []) = (omega arith, tt)
least_at_most_each f (x ∷ y ∷ ys) = (
  omega arith,
  All-weaker (λ z. least f (y ∷ ys) ≤ f z) (λ z. min (f x) (least f (y ∷ ys)) ≤ f z) (λ z h. omega arith) (y ∷ ys) (least_at_most_each f (y ∷ ys)),
)

longest_bucket_keeps : (P : BucketModel → Type 0) (b : BucketModel) (bs : List BucketModel) → P b → AllByRecursion P bs → P (longest_by (λ c. c.staircase) b bs)
longest_bucket_keeps P b [] p ps = p
longest_bucket_keeps P b (c ∷ cs) p ps =
    longest_bucket_keeps P (cond (longer c.staircase b.staircase) c b) cs
    (cond_both (longer c.staircase b.staircase) c b P (λ _. ps.0) (λ _. p)) ps.1

-- the long bucket is one of the buckets: what holds of each holds of it
pub long_bucket_keeps : (P : BucketModel → Type 0) (bs : List BucketModel) → 1 ≤ length bs → AllByRecursion P bs → P (long_bucket bs)
long_bucket_keeps P [] n ps = absurd (omega arith)
long_bucket_keeps P (b ∷ bs) n ps = longest_bucket_keeps P b bs ps.0 ps.1

-- no more can arrive than the long bucket allows
pub long_bucket_allows : (x : ℕ) (bs : List BucketModel) → 1 ≤ length bs → arrivals_within x bs ≤ bucket_allows x (long_bucket bs)
long_bucket_allows x bs n = long_bucket_keeps (λ b. arrivals_within x bs ≤ bucket_allows x b) bs n (least_at_most_each (bucket_allows x) bs)

chosen_staircase : (t : Bool) (b c : BucketModel) → (cond t b c).staircase ≡ cond t b.staircase c.staircase
chosen_staircase true b c = refl
chosen_staircase false b c = refl

longest_bucket_staircase : (b : BucketModel) (bs : List BucketModel) → (longest_by (λ c. c.staircase) b bs).staircase ≡ longest b.staircase (map (λ c. c.staircase) bs)
longest_bucket_staircase b [] = refl
longest_bucket_staircase b (c ∷ cs) =
    longest_bucket_staircase (cond (longer c.staircase b.staircase) c b) cs
    ∙ ap (λ s. longest s (map (λ d. d.staircase) cs)) (chosen_staircase (longer c.staircase b.staircase) c b)

-- the long bucket is that of the long staircase
long_bucket_staircase : (bs : List BucketModel) → (long_bucket bs).staircase ≡ long_staircase (map (λ b. b.staircase) bs)
long_bucket_staircase [] = refl
long_bucket_staircase (b ∷ bs) = longest_bucket_staircase b bs

-- a lane has a bucket
some_bucket : (l : LaneModel) → LaneFormed l → 1 ≤ length l.buckets
some_bucket l ok = omega (arith, ap length ok.own, length-map l.buckets (λ b. b.staircase), ok.task.some_staircase)

-- the long bucket of a lane is that of the task's long staircase
pub long_bucket_own : (l : LaneModel) → LaneFormed l → (long_bucket l.buckets).staircase ≡ long_staircase l.task.staircases
long_bucket_own l ok = long_bucket_staircase l.buckets ∙ ap long_staircase ok.own

-- the long staircase of a task is one of its own
pub long_staircase_formed : (t : TaskModel) → TaskFormed t → StaircaseFormed (long_staircase t.staircases)
long_staircase_formed t ok =
    all-has StaircaseFormed t.staircases (long_staircase t.staircases) ok.staircases (long_of t.staircases ok.some_staircase).own

-- its step and its counter are those of a bucket of the lane
long_bucket_step : (l : LaneModel) → LaneFormed l → 1 ≤ (long_bucket l.buckets).staircase.step
long_bucket_step l ok = long_bucket_keeps (λ b. 1 ≤ b.staircase.step) l.buckets (some_bucket l ok) (steps_above l ok)

long_bucket_sound : (l : LaneModel) → LaneFormed l → sound (long_bucket l.buckets).staircase (long_bucket l.buckets).counter ≡ true
long_bucket_sound l ok = long_bucket_keeps (λ b. sound b.staircase b.counter ≡ true) l.buckets (some_bucket l ok) ok.counters

-- the pending jobs that are due are part of the backlog
due_at_most_backlog : (t : ℕ) (js : List Job) → due_by t js ≤ backlog js
due_at_most_backlog t [] = omega arith
due_at_most_backlog t (j ∷ js) =
    cond_both (leb j.due t) j.remaining 0 (λ x. x + due_by t js ≤ j.remaining + backlog js)
    (λ _. omega (arith, due_at_most_backlog t js)) (λ _. omega (arith, due_at_most_backlog t js))

-- what is due within Δ ticks is part of what may be asked at the Δ instants: each deadline is at least 1
pub demand_at_most_load : (now : ℕ) (l : LaneModel) (Δ : ℕ) → LaneFormed l → demand now l Δ ≤ load l Δ
demand_at_most_load now l Δ ok =
    let fewer : suc Δ - l.task.deadline ≤ Δ = omega (arith, ok.task.deadline_above) in
    omega (
      arith,
      due_at_most_backlog (now + Δ) l.pending,
      mul-le-mul_left l.task.limit (arrivals_rise (suc Δ - l.task.deadline) Δ l.buckets fewer (steps_above l ok)),
    )

-- younger than a step, a counter gains at most one token more than a full one in the same time
age_adds_one : (n g d : ℕ) → 1 ≤ d → g ≤ d → (n + g) / d ≤ n / d + 1
age_adds_one n g d p h = omega (arith, quotient_rises (n + g) (n + d) d p (omega arith), add-div_right n p)

-- one counter allows at most a burst and an arrival in each step
counter_rate : (x : ℕ) (s : StaircaseModel) (c : Counter) → 1 ≤ s.step → sound s c ≡ true
    → bucket_allows x (record { staircase = s; counter = c }) ≤ s.burst + x / s.step
counter_rate zero s c p h = omega arith
counter_rate (suc n) s Full p h = omega (arith, quotient_rises (n + 0) (suc n) s.step p (omega arith))
counter_rate (suc n) s (Short t g) p h =
    let fewer : t < s.burst = ltb-true t s.burst (and_parts (ltb t s.burst) (ltb g s.step) h).0 in
    let younger : g < s.step = ltb-true g s.step (and_parts (ltb t s.burst) (ltb g s.step) h).1 in
    omega (arith, age_adds_one n g s.step p (omega arith), quotient_rises n (suc n) s.step p (omega arith))

-- in the long run one job arrives in each step of the long staircase, after a burst
pub arrivals_rate : (l : LaneModel) → LaneFormed l → (y : ℕ)
    → arrivals_within y l.buckets ≤ long_burst l.task + y / (long_staircase l.task.staircases).step
arrivals_rate l ok y =
    let b : BucketModel = long_bucket l.buckets in
    let most : bucket_allows y b ≤ b.staircase.burst + y / b.staircase.step =
    counter_rate y b.staircase b.counter (long_bucket_step l ok) (long_bucket_sound l ok) in
    omega (
      arith,
      long_bucket_allows y l.buckets (some_bucket l ok),
      subst (λ (s : StaircaseModel). bucket_allows y b ≤ s.burst + y / s.step) (long_bucket_own l ok) most,
    )

-- a quotient that was rounded up
rounded_up : (a d : ℕ) → 1 ≤ d → a ≤ (a + (d - 1)) / d * d
rounded_up a d p = omega (arith, lt-div-mul-add {a = a + (d - 1)} p)

-- a share s that covers the work a of one step d covers that of each whole step
steps_paid : (a s d x : ℕ) → a ≤ s * d → a * (x / d) ≤ s * x
steps_paid a s d x h = omega (arith, mul-le-mul_right (x / d) h, mul-le-mul_left s (mul-div-le x d))

-- the share of a task pays for a job in each step of its long staircase
share_pays : (l : LaneModel) → LaneFormed l → (x : ℕ) → 1024 * l.task.limit * (x / (long_staircase l.task.staircases).step) ≤ share l.task * x
share_pays l ok x =
    steps_paid (1024 * l.task.limit) (share l.task) (long_staircase l.task.staircases).step x
    (rounded_up (1024 * l.task.limit) (long_staircase l.task.staircases).step (long_staircase_formed l.task ok.task).step_above)

rate_sum : (L c F N q s y : ℕ) → F ≤ N + q → 1024 * c * q ≤ s * y → 1024 * (L + c * F) ≤ 1024 * (L + c * N) + s * y
rate_sum L c F N q s y few paid = omega (arith, mul-le-mul_left c few)

-- the load lies below a straight line that begins with the backlog and a burst and rises by the share
pub load_rate : (l : LaneModel) → LaneFormed l → (y : ℕ)
    → 1024 * load l y ≤ 1024 * (backlog l.pending + l.task.limit * long_burst l.task) + share l.task * y
load_rate l ok y =
    rate_sum (backlog l.pending) l.task.limit (arrivals_within y l.buckets) (long_burst l.task)
    (y / (long_staircase l.task.staircases).step) (share l.task) y
    (arrivals_rate l ok y) (share_pays l ok y)

start_rate : (L c a : ℕ) (s : StaircaseModel) (k : Counter) → sound s k ≡ true
    → 1024 * (L + c * tokens s k) + min (a * age k) (1024 * c) ≤ 1024 * (L + c * s.burst)
start_rate L c a s Full h = omega arith
start_rate L c a s (Short t g) h =
    let fewer : t < s.burst = ltb-true t s.burst (and_parts (ltb t s.burst) (ltb g s.step) h).0 in
    omega (arith, mul-le-mul_left c fewer)

-- the line lies below it too: a short counter has a token less than the burst
pub line_load_rate : (l : LaneModel) → LaneFormed l → (y : ℕ)
    → line_load l y ≤ 1024 * (backlog l.pending + l.task.limit * long_burst l.task) + share l.task * y
line_load_rate l ok y =
    let b : BucketModel = long_bucket l.buckets in
    let start : line_start l ≤ 1024 * (backlog l.pending + l.task.limit * b.staircase.burst) =
    start_rate (backlog l.pending) l.task.limit (share l.task) b.staircase b.counter (long_bucket_sound l ok) in
    omega (arith, ap (λ (s : StaircaseModel). l.task.limit * s.burst) (long_bucket_own l ok))

-- in two ways for the age: by the share, and as one token at most
line_sum : (L c F T q p s g n : ℕ) → F ≤ T + q → q ≤ p + 1 → 1024 * c * q ≤ s * (n + g) → 1024 * c * p ≤ s * n
    → 1024 * (L + c * F) ≤ 1024 * (L + c * T) + min (s * g) (1024 * c) + s * suc n
line_sum L c F T q p s g n few next paid before = omega (arith, mul-le-mul_left c few, mul-le-mul_left (1024 * c) next)

age_within_step : (s : StaircaseModel) (c : Counter) → sound s c ≡ true → age c ≤ s.step
age_within_step s Full h = omega arith
age_within_step s (Short t g) h = omega (arith, ltb-true g s.step (and_parts (ltb t s.burst) (ltb g s.step) h).1)

-- the line lies above the load
pub line_covers_load : (l : LaneModel) → LaneFormed l → (y : ℕ) → 1024 * load l y ≤ line_load l y
line_covers_load l ok zero = omega (arith, ap (λ x. l.task.limit * x) (arrivals_at_none l.buckets))
line_covers_load l ok (suc n) =
    let b : BucketModel = long_bucket l.buckets in
    let paid : (x : ℕ) → 1024 * l.task.limit * (x / b.staircase.step) ≤ share l.task * x =
    subst (λ (s : StaircaseModel). (x : ℕ) → 1024 * l.task.limit * (x / s.step) ≤ share l.task * x) (sym (long_bucket_own l ok)) (share_pays l ok) in
    line_sum (backlog l.pending) l.task.limit (arrivals_within (suc n) l.buckets) (tokens b.staircase b.counter)
    ((n + age b.counter) / b.staircase.step) (n / b.staircase.step) (share l.task) (age b.counter) n
    (long_bucket_allows (suc n) l.buckets (some_bucket l ok))
    (age_adds_one n (age b.counter) b.staircase.step (long_bucket_step l ok) (age_within_step b.staircase b.counter (long_bucket_sound l ok)))
    (paid (n + age b.counter)) (paid n)
