-- The first task that does not fit by a short search: where the length b is far enough for the amount, no longer length decides.
use Rattle.std.proofs.Common.{◌≡◌, ℕ, suc, ◌+◌, ◌-◌, ◌*◌, ◌≤◌, List, [], mul-le-mul_right, arith}
use Rattle.std.specs.List.{AllByRecursion}
use Rattle.fit.proofs.FirstMisfit.{far_enough, one_answer, search_finds}
use Rattle.fit.proofs.Misfits.{misfit_found}
use Rattle.fit.specs.Search.{first_misfit, misfit_to}
use Rattle.fit.specs.WellFormed.{LaneFormed}
use Rattle.lanes.specs.Lane.{LaneModel, tasks_of}
use Rattle.lanes.specs.Standing.{standing}
use Rattle.tasks.specs.TaskSet.{shares}
use Rattle.figures.proofs.ShortSweep.{Far}

-- what is far enough is so with one length more
one_length_more : (b m S : ℕ) → m ≤ b * (1024 - S) → m ≤ suc b * (1024 - S)
one_length_more b m S far = omega (arith, mul-le-mul_right {m = b} {n = suc b} (1024 - S) (omega arith))

pub misfit_by_short_search : (b now w : ℕ) (ls : List LaneModel) → AllByRecursion LaneFormed ls → shares (tasks_of ls) ≤ 960 → Far b w ls
    → misfit_to b 1 now w (λ y. 0) ls ≡ first_misfit now w ls
misfit_by_short_search b now w ls ok light far =
    one_answer now w ls (misfit_to b 1 now w (λ y. 0) ls) (first_misfit now w ls)
    (misfit_found b now w ls
    (far_enough b now w (standing ls) (shares (tasks_of ls)) (λ y. 0) [] ls ok (λ y. omega arith) (omega arith) (omega arith)
    (one_length_more b (1024 * (w + standing ls)) (shares (tasks_of ls)) far)))
    (search_finds now w ls ok light)
