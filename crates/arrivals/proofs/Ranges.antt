-- Every staircase that code holds has a burst and a step of at least 1.
use Rattle.std.proofs.Common.{◌≤◌, List, [], ◌∷◌, map}
use Rattle.std.specs.List.{AllByRecursion}
use Rattle.tasks.specs.Staircase.{staircase_of}
use Rattle.tasks.specs.declared.staircase.Staircase.{Staircase}
use Rattle.arrivals.specs.Bucket.{bucket_of}
use Rattle.arrivals.specs.declared.bucket.Bucket.{Bucket}

pub real_staircases : (ss : List Staircase) → AllByRecursion (λ s. (1 ≤ s.burst) × (1 ≤ s.step)) (map staircase_of ss)
real_staircases [] = tt
real_staircases (s ∷ ss) = ((s.burst_above, s.step_above), real_staircases ss)

pub real_steps : (bs : List Bucket) → AllByRecursion (λ b. 1 ≤ b.staircase.step) (map bucket_of bs)
real_steps [] = tt
real_steps (b ∷ bs) = (b.staircase.step_above, real_steps bs)
