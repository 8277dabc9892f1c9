-- Long lengths do not decide, whatever rule weighs the tasks: what their shares leave free of the processor outgrows the amount and what stands.
use Rattle.std.proofs.Common.{◌≡◌, ℕ, ◌+◌, ◌-◌, ◌*◌, ◌<◌, ◌≤◌, true, ◌&&◌, leb, List, [], ◌∷◌, length, ap, inl, inr, mul-le-mul_right, mul-le-mul_left, arith}
use Rattle.std.proofs.lemmas.Bool.{and_parts, cases_lt, leb-true}
use Rattle.std.specs.List.{AllByRecursion}
use Rattle.tasks.specs.Task.{share}
use Rattle.fit.proofs.Rates.{demand_at_most_load, load_rate, long_staircase_formed}
use Rattle.fit.specs.Weighing.{AllWeigh, AllWeighBelow}
use Rattle.lanes.specs.Demand.{demand}
use Rattle.fit.specs.Fit.{ahead}
use Rattle.tasks.specs.TaskSet.{long_burst, peak_of_tasks, shares}
use Rattle.fit.specs.Horizon.{LongLengthsSuffice}
use Rattle.lanes.specs.Standing.{standing}
use Rattle.lanes.specs.Job.{backlog, within_limit}
use Rattle.lanes.specs.Lane.{LaneModel, tasks_of}
use Rattle.fit.specs.WellFormed.{LaneFormed}
use Rattle.lanes.specs.declared.job.Job.{Job}

-- what a rule adds for a task, in 1024ths, begins with at most the backlog and a burst and rises by at most the share
abbrev pub Rated : (LaneModel → ℕ → ℕ) → Type 0
Rated ld = (l : LaneModel) → LaneFormed l → (y : ℕ) → ld l y ≤ 1024 * (backlog l.pending + l.task.limit * long_burst l.task) + share l.task * y

-- a task can always have a burst
some_standing : (l : LaneModel) (ls : List LaneModel) → LaneFormed l → 0 < standing (l ∷ ls)
some_standing l ls ok =
    omega (arith, ok.task.limit_above, mul-le-mul_left l.task.limit (long_staircase_formed l.task ok.task).burst_above)

-- where S is the sum of the shares, a what stands and x at most the line of both, in 1024ths
free_part_suffices : (w m a S Δ y x : ℕ) → 0 < a → w ≤ m → Δ ≤ y → 1024 * (m + a) ≤ Δ * (1024 - S) → x ≤ 1024 * a + S * y → 1024 * w + x ≤ 1024 * y
free_part_suffices w m a S Δ y x some hw hy far hx =
    elim (cases_lt 1024 S) [
      | inl over ↦ let none : 1024 - S ≡ 0 = omega arith in absurd (omega (arith, ap (λ z. Δ * z) none))
      | inr under ↦ let whole : 1024 - S + S ≡ 1024 = omega arith in omega (arith, mul-le-mul_right (1024 - S) hy, ap (λ z. y * z) whole)
    ]

-- From the length Δ on each length y is itself enough, for the task of the lane l behind others that may ask A by then, in 1024ths.
pub long_length_suffices : (now m Δ A : ℕ) (before : List LaneModel) (l : LaneModel) → LaneFormed l
    → 1024 * (m + standing (l ∷ before)) ≤ Δ * (1024 - shares (tasks_of (l ∷ before)))
    → (w y : ℕ) → w ≤ m → Δ ≤ y → A ≤ 1024 * standing before + shares (tasks_of before) * y → 1024 * (w + demand now l y) + A ≤ 1024 * y
long_length_suffices now m Δ A before l ok far w y hw hy hA =
    omega (
      arith,
      free_part_suffices w m (standing (l ∷ before)) (shares (tasks_of (l ∷ before))) Δ y (1024 * demand now l y + A) (some_standing l before ok) hw hy far
          (omega (arith, demand_at_most_load now l y ok, load_rate l ok y)),
    )

-- what holds far enough for all of these lanes holds so for a front part of them
front_is_far : (m a c S T b : ℕ) → 1024 * (m + (a + c)) ≤ b * (1024 - (S + T)) → 1024 * (m + a) ≤ b * (1024 - S)
front_is_far m a c S T b far = omega (arith, mul-le-mul_left {m = 1024 - (S + T)} {n = 1024 - S} b (omega arith))

-- to weigh the tasks at the lengths below b is to weigh them at every length
pub far_weigh : (ld : LaneModel → ℕ → ℕ) → Rated ld → (b now m w : ℕ) (A : ℕ → ℕ) (before ls : List LaneModel) → w ≤ m → AllByRecursion LaneFormed ls
    → ((y : ℕ) → A y ≤ 1024 * standing before + shares (tasks_of before) * y)
    → 1024 * (m + (standing before + standing ls)) ≤ b * (1024 - (shares (tasks_of before) + shares (tasks_of ls)))
    → AllWeighBelow ld b now w A ls → AllWeigh ld now w A ls
far_weigh ld rated b now m w A before [] hw ok hA far f = tt
far_weigh ld rated b now m w A before (l ∷ ls) hw ok hA far f = (
  (λ Δ some. elim (cases_lt Δ b) [
    | inl short ↦ f.0 Δ short some
    | inr long ↦ (Δ, omega arith, long_length_suffices now m b (A Δ) before l ok.0 front w Δ hw long (hA Δ))
  ]),
  far_weigh ld rated b now m w (λ y. A y + ld l y) (l ∷ before) ls hw ok.1 (λ y. omega (arith, hA y, rated l ok.0 y)) rest f.1,
)
  where
    rest : 1024 * (m + (standing (l ∷ before) + standing ls)) ≤ b * (1024 - (shares (tasks_of (l ∷ before)) + shares (tasks_of ls)))
    rest =
        let same : shares (tasks_of (l ∷ before)) + shares (tasks_of ls) ≡ shares (tasks_of before) + shares (tasks_of (l ∷ ls)) = omega arith in
        rw same (omega arith)

    front : 1024 * (m + standing (l ∷ before)) ≤ b * (1024 - shares (tasks_of (l ∷ before)))
    front = front_is_far m (standing (l ∷ before)) (standing ls) (shares (tasks_of (l ∷ before))) (shares (tasks_of ls)) b rest

-- at most a limit for each pending job
backlog_bound : (limit : ℕ) (js : List Job) → within_limit limit js ≡ true → backlog js ≤ length js * limit
backlog_bound limit [] h = omega arith
backlog_bound limit (j ∷ js) h =
    let parts = and_parts (leb 1 j.remaining && leb j.remaining limit) (within_limit limit js) h in
    let small : j.remaining ≤ limit = leb-true j.remaining limit (and_parts (leb 1 j.remaining) (leb j.remaining limit) parts.0).1 in
    omega (arith, backlog_bound limit js parts.1)

-- what stands is at most eight pending jobs of each task and a burst
pub standing_at_most_peak : (ls : List LaneModel) → AllByRecursion LaneFormed ls → standing ls ≤ peak_of_tasks (tasks_of ls)
standing_at_most_peak [] ok = omega arith
standing_at_most_peak (l ∷ ls) ok =
    omega (
      arith,
      backlog_bound l.task.limit l.pending ok.0.worked,
      mul-le-mul_right l.task.limit ok.0.few,
      standing_at_most_peak ls ok.1,
    )

-- where S is the sum of the shares, a what stands and p the peak
sixteenth_free : (a p m S : ℕ) → a ≤ p → S ≤ 960 → 1024 * (m + a) ≤ 16 * (p + m) * (1024 - S)
sixteenth_free a p m S ha hS = omega (arith, mul-le-mul_left {m = 64} {n = 1024 - S} (16 * (p + m)) (omega arith))

-- with at least a sixteenth free, sixteen times the peak and the amount is far enough
pub horizon_is_far : (m : ℕ) (ls : List LaneModel) → shares (tasks_of ls) ≤ 960 → AllByRecursion LaneFormed ls
    → 1024 * (m + standing ls) ≤ 16 * (peak_of_tasks (tasks_of ls) + m) * (1024 - shares (tasks_of ls))
horizon_is_far m ls light ok = sixteenth_free (standing ls) (peak_of_tasks (tasks_of ls)) m (shares (tasks_of ls)) (standing_at_most_peak ls ok) light

-- what the tasks before may ask, by their lines
ahead_rate : (ls : List LaneModel) (y : ℕ) → AllByRecursion LaneFormed ls → 1024 * ahead ls y ≤ 1024 * standing ls + shares (tasks_of ls) * y
ahead_rate [] y ok = omega arith
ahead_rate (l ∷ ls) y ok = omega (arith, load_rate l ok.0 y, ahead_rate ls y ok.1)

pub long_lengths_suffice : LongLengthsSuffice
long_lengths_suffice now m Δ before l ok far w longer hw hy =
    omega (arith, long_length_suffices now m Δ (1024 * ahead before longer) before l ok.0 far w longer hw hy (ahead_rate before longer ok.1))
