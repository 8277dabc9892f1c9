-- Whether a task is well formed, as a test that computes.
use Rattle.std.proofs.Common.{◌≡◌, ℕ, ◌≤◌, Bool, true, ◌&&◌, leb, length}
use Rattle.std.proofs.lemmas.Bool.{and_parts, leb-true}
use Rattle.std.specs.List.{list_all}
use Rattle.fit.specs.WellFormed.{StaircaseFormed, TaskFormed}
use Rattle.tasks.specs.Staircase.{StaircaseModel, pending_bound}
use Rattle.tasks.specs.Task.{TaskModel}
use Rattle.figures.proofs.Passing.{all_from_pass}

-- whether n lies from low to high
abbrev within : ℕ → ℕ → ℕ → Bool
within low high n = leb low n && leb n high

within_tells : (low high n : ℕ) → within low high n ≡ true → (low ≤ n) × (n ≤ high)
within_tells low high n e = let parts = and_parts (leb low n) (leb n high) e in (leb-true low n parts.0, leb-true n high parts.1)

abbrev formed_staircase : StaircaseModel → Bool
formed_staircase s = within 1 8 s.burst && within 1 4096 s.step

staircase_formed : (s : StaircaseModel) → formed_staircase s ≡ true → StaircaseFormed s
staircase_formed s e =
    let parts = and_parts (within 1 8 s.burst) (within 1 4096 s.step) e in
    let burst = within_tells 1 8 s.burst parts.0 in
    let step = within_tells 1 4096 s.step parts.1 in
    record { burst_above = burst.0; burst_below = burst.1; step_above = step.0; step_below = step.1 }

-- the limit and the deadline; the staircases
abbrev formed_numbers : TaskModel → Bool
formed_numbers t = within 1 64 t.limit && within 1 1024 t.deadline

abbrev formed_staircases : TaskModel → Bool
formed_staircases t = within 1 4 (length t.staircases) && list_all formed_staircase t.staircases

abbrev pub formed_task : TaskModel → Bool
formed_task t = (formed_numbers t && formed_staircases t) && leb (pending_bound t.deadline t.staircases) 8

pub task_formed : (t : TaskModel) → formed_task t ≡ true → TaskFormed t
task_formed t e =
    let bound : ℕ = pending_bound t.deadline t.staircases in
    let parts = and_parts (formed_numbers t && formed_staircases t) (leb bound 8) e in
    let halves = and_parts (formed_numbers t) (formed_staircases t) parts.0 in
    let numbers = and_parts (within 1 64 t.limit) (within 1 1024 t.deadline) halves.0 in
    let staircases = and_parts (within 1 4 (length t.staircases)) (list_all formed_staircase t.staircases) halves.1 in
    let limit = within_tells 1 64 t.limit numbers.0 in
    let deadline = within_tells 1 1024 t.deadline numbers.1 in
    let number = within_tells 1 4 (length t.staircases) staircases.0 in
    record {
      limit_above = limit.0;
      limit_below = limit.1;
      deadline_above = deadline.0;
      deadline_below = deadline.1;
      some_staircase = number.0;
      few_staircases = number.1;
      staircases = all_from_pass formed_staircase StaircaseFormed staircase_formed t.staircases staircases.1;
      few_pending = leb-true bound 8 parts.1;
    }
