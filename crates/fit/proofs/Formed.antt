-- Every lane that code holds is well formed: the ghost fields of its types say so.
use Rattle.std.proofs.Common.{◌≡◌, ℕ, ◌≤◌, true, ◌&&◌, eqb, List, [], ◌∷◌, map, length, sym, refl, ap, ◌∙◌, arith}
use Rattle.std.proofs.lemmas.List.{length-map, length-take}
use Rattle.std.proofs.lemmas.Bool.{and_parts, eqb-true}
use Rattle.std.specs.List.{AllByRecursion}
use Rattle.arrivals.specs.Bucket.{BucketModel, bucket_of, counters_of, matched}
use Rattle.arrivals.specs.Counter.{sound}
use Rattle.arrivals.specs.declared.bucket.Bucket.{Bucket}
use Rattle.bounded.specs.List.{items}
use Rattle.bounded.specs.declared.list.Bounded.{Bounded}
use Rattle.lanes.specs.Lane.{lane_of}
use Rattle.lanes.specs.declared.lane.Lane.{Lane}
use Rattle.tasks.specs.Staircase.{StaircaseModel, staircase_of}
use Rattle.tasks.specs.Task.{task_of}
use Rattle.tasks.specs.declared.staircase.Staircase.{Staircase}
use Rattle.tasks.specs.declared.task.Task.{Task}
use Rattle.fit.specs.WellFormed.{LaneFormed, StaircaseFormed, TaskFormed}

-- a bounded list has at most as many elements as slots
pub few_items : {T : Type 0} {n : ℕ} (b : Bounded T n) → length (items b) ≤ n
few_items b = omega (arith, length-take b.len b.slots, b.within)

staircases_formed : (ss : List Staircase) → AllByRecursion StaircaseFormed (map staircase_of ss)
staircases_formed [] = tt
staircases_formed (s ∷ ss) = (
  record { burst_above = s.burst_above; burst_below = s.burst_below; step_above = s.step_above; step_below = s.step_below },
  staircases_formed ss,
)

pub task_formed : (t : Task) → TaskFormed (task_of t)
task_formed t =
    let ss = items t.staircases in
    record {
      limit_above = t.limit_above;
      limit_below = t.limit_below;
      deadline_above = t.deadline_above;
      deadline_below = t.deadline_below;
      some_staircase = omega (arith, length-map ss staircase_of, t.bounded_arrivals);
      few_staircases = omega (arith, length-map ss staircase_of, few_items t.staircases);
      staircases = staircases_formed ss;
      few_pending = t.few_pending;
    }

-- buckets that belong to these staircases have them
matched_own : (ss : List StaircaseModel) (bs : List BucketModel) → matched ss bs ≡ true → map (λ b. b.staircase) bs ≡ ss
matched_own [] [] e = refl
matched_own [] (b ∷ bs) e = let z : ◌≡◌ {A = ℕ} 0 1 = cc in absurd (omega arith)
matched_own (s ∷ ss) [] e = let z : ◌≡◌ {A = ℕ} 0 1 = cc in absurd (omega arith)
matched_own (s ∷ ss) (b ∷ bs) e =
    let parts = and_parts (eqb s.burst b.staircase.burst && eqb s.step b.staircase.step) (matched ss bs) e in
    let same = and_parts (eqb s.burst b.staircase.burst) (eqb s.step b.staircase.step) parts.0 in
    let staircase : b.staircase ≡ s =
    sym (ap (λ n. made n s.step) (eqb-true s.burst b.staircase.burst same.0) ∙ ap (made b.staircase.burst) (eqb-true s.step b.staircase.step same.1)) in
    ap (λ u. u ∷ map (λ c. c.staircase) bs) staircase ∙ ap (λ us. s ∷ us) (matched_own ss bs parts.1)
  where
    made : ℕ → ℕ → StaircaseModel
    made n d = record { burst = n; step = d }

counters_sound : (bs : List Bucket) → AllByRecursion (λ b. sound b.staircase b.counter ≡ true) (map bucket_of bs)
counters_sound [] = tt
counters_sound (b ∷ bs) = (b.within, counters_sound bs)

pub lane_formed : (l : Lane) → LaneFormed (lane_of l)
lane_formed l =
    record {
      task = task_formed l.task;
      own = matched_own (map staircase_of (items l.task.staircases)) (counters_of l.counters) l.own;
      counters = counters_sound (items l.counters.buckets);
      few = few_items l.pending;
      worked = l.worked;
    }

pub lanes_formed : (ls : List Lane) → AllByRecursion LaneFormed (map lane_of ls)
lanes_formed [] = tt
lanes_formed (l ∷ ls) = (lane_formed l, lanes_formed ls)

pub tasks_formed : (ts : List Task) → AllByRecursion TaskFormed (map task_of ts)
tasks_formed [] = tt
tasks_formed (t ∷ ts) = (task_formed t, tasks_formed ts)
