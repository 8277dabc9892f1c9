-- A figure by a quick computation over the lengths up to b: the answer is that of the definition where b is far enough.
use Rattle.std.proofs.Common.{◌≡◌, ℕ, ◌+◌, ◌-◌, ◌*◌, ◌≤◌, Bool, true, false, not, ◌&&◌, leb, List, map, sym, ap, ◌∙◌, subst, arith}
use lib.Dec.{leb-zero}
use Rattle.std.proofs.lemmas.Bool.{and_parts, cond-true, leb-true, not-true}
use Rattle.std.specs.List.{list_all, AllByRecursion}
use Rattle.fit.proofs.Conversions.{scaled_load}
use Rattle.fit.proofs.Fresh.{tasks_fresh_formed}
use Rattle.fit.specs.Exact.{fresh_allowance_of}
use Rattle.fit.specs.Fixed.{fixed}
use Rattle.fit.specs.Search.{first_misfit, misfit_to}
use Rattle.fit.specs.State.{fresh_state, none}
use Rattle.fit.specs.WellFormed.{LaneFormed, TaskFormed}
use Rattle.gate.proofs.Openings.{then_weighed}
use Rattle.gate.specs.Opening.{allowed, open_answer, unless_misfit}
use Rattle.lanes.proofs.Fresh.{tasks_of_fresh}
use Rattle.lanes.specs.Lane.{LaneModel, fresh_lane, tasks_of}
use Rattle.lanes.specs.Line.{line_load}
use Rattle.lanes.specs.Standing.{standing}
use Rattle.tasks.specs.Reply.{Reply}
use Rattle.tasks.specs.Task.{TaskModel}
use Rattle.tasks.specs.TaskSet.{shares}
use Rattle.figures.proofs.Formed.{formed_task, task_formed}
use Rattle.figures.proofs.Passing.{all_from_pass}
use Rattle.figures.proofs.Replies.{same_reply, same_reply_tells}
use Rattle.figures.proofs.ShortSearch.{misfit_by_short_search}
use Rattle.figures.proofs.ShortSweep.{Far, exact_by_short_sweep, line_by_short_sweep, swept}
use Rattle.figures.specs.Opening.{Figure, Rule, exact_rule, fixed_rule, line_rule, meaning_of}

-- the opening allowance under a rule by a sweep of the lengths below b
abbrev quick_allowance : ℕ → Rule → List LaneModel → ℕ
quick_allowance b exact_rule ls = swept scaled_load b 0 ls
quick_allowance b line_rule ls = swept line_load b 0 ls
quick_allowance b fixed_rule ls = swept scaled_load b 0 ls

-- the answer to opening with this allowance, by a search of the lengths up to b
abbrev quick_answer : ℕ → ℕ → List LaneModel → Reply ℕ
quick_answer b allowance ls = unless_misfit (misfit_to b 1 0 0 (λ y. 0) ls) (allowed allowance)

-- whether there are tasks, and all of them are well formed
abbrev good_tasks : List TaskModel → Bool
good_tasks ts = not (none ts) && list_all formed_task ts

-- whether they leave a sixteenth of the processor free, and b is far enough for the allowance
abbrev far_test : ℕ → ℕ → List LaneModel → Bool
far_test b allowance ls = leb (shares (tasks_of ls)) 960 && leb (1024 * (allowance + standing ls)) (b * (1024 - shares (tasks_of ls)))

-- all tests of a figure, where this is the allowance; it is handed over so that it is computed once
abbrev quick_with : ℕ → ℕ → Figure → Bool
quick_with b allowance f =
    (good_tasks f.tasks && far_test b allowance (map fresh_lane f.tasks))
    && same_reply (quick_answer b allowance (map fresh_lane f.tasks)) f.answer

abbrev pub quick : ℕ → Figure → Bool
quick b f = quick_with b (quick_allowance b f.rule (map fresh_lane f.tasks)) f

module _ (b : ℕ) (ts : List TaskModel) (ok : AllByRecursion LaneFormed (map fresh_lane ts)) (light : shares (tasks_of (map fresh_lane ts)) ≤ 960) where
  -- a fresh state has spent nothing of the fixed allowance, which is the exact one
  fixed_when_fresh : fixed (fresh_state 0 ts) ≡ fresh_allowance_of ts
  fixed_when_fresh =
      let w0 : ℕ = fresh_allowance_of (tasks_of (map fresh_lane ts)) in
      cond-true (leb 0 w0) (0 + w0 - 0) 0 (leb-zero w0) ∙ omega (arith, ap fresh_allowance_of (tasks_of_fresh ts))

  -- the sweep finds the opening allowance
  allowance_found : (r : Rule) → Far b (quick_allowance b r (map fresh_lane ts)) (map fresh_lane ts)
      → quick_allowance b r (map fresh_lane ts) ≡ meaning_of r (fresh_state 0 ts)
  allowance_found exact_rule far = exact_by_short_sweep b 0 (map fresh_lane ts) ok light far
  allowance_found line_rule far = line_by_short_sweep b 0 (map fresh_lane ts) ok light far
  allowance_found fixed_rule far = exact_by_short_sweep b 0 (map fresh_lane ts) ok light far ∙ sym fixed_when_fresh

  -- and with the search the answer
  answer_found : (r : Rule) → none ts ≡ false → Far b (quick_allowance b r (map fresh_lane ts)) (map fresh_lane ts)
      → open_answer (meaning_of r) 0 ts ≡ quick_answer b (quick_allowance b r (map fresh_lane ts)) (map fresh_lane ts)
  answer_found r there far =
      let ls : List LaneModel = map fresh_lane ts in
      let short : misfit_to b 1 0 0 (λ y. 0) ls ≡ first_misfit 0 0 ls = misfit_by_short_search b 0 0 ls ok light (omega arith) in
      then_weighed (meaning_of r) 0 ts there (omega arith) (subst (λ (us : List TaskModel). shares us ≤ 960) (tasks_of_fresh ts) light)
      ∙ ap (λ o. unless_misfit o (allowed (meaning_of r (fresh_state 0 ts)))) (sym short)
      ∙ ap (λ n. unless_misfit (misfit_to b 1 0 0 (λ y. 0) ls) (allowed n)) (sym (allowance_found r far))

-- a figure that passes the tests holds
pub sound : (b : ℕ) (f : Figure) → quick b f ≡ true → open_answer (meaning_of f.rule) 0 f.tasks ≡ f.answer
sound b f e =
    let ts : List TaskModel = f.tasks in
    let ls : List LaneModel = map fresh_lane ts in
    let allowance : ℕ = quick_allowance b f.rule ls in
    let parts = and_parts (good_tasks ts && far_test b allowance ls) (same_reply (quick_answer b allowance ls) f.answer) e in
    let tests = and_parts (good_tasks ts) (far_test b allowance ls) parts.0 in
    let good = and_parts (not (none ts)) (list_all formed_task ts) tests.0 in
    let far = and_parts (leb (shares (tasks_of ls)) 960) (leb (1024 * (allowance + standing ls)) (b * (1024 - shares (tasks_of ls)))) tests.1 in
    let ok : AllByRecursion LaneFormed ls = tasks_fresh_formed ts (all_from_pass formed_task TaskFormed task_formed ts good.1) in
    answer_found b ts ok (leb-true (shares (tasks_of ls)) 960 far.0) f.rule (not-true (none ts) good.0)
    (leb-true (1024 * (allowance + standing ls)) (b * (1024 - shares (tasks_of ls))) far.1)
    ∙ same_reply_tells (quick_answer b allowance ls) f.answer parts.1
