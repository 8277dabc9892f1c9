use Rattle.std.proofs.Common.{◌≡◌, map, take}
use Rattle.arrivals.specs.Bucket.{bucket_of, full}
use Rattle.bounded.specs.List.{items}
use Rattle.tasks.specs.Staircase.{staircase_of}
use Rattle.arrivals.proofs.counters.Counters.new.Given as goal

abbrev pub invariant-loop-staircase : goal.invariant-loop-staircase
invariant-loop-staircase l = map bucket_of (items l.buckets) ≡ map (λ s. full (staircase_of s)) (take l.staircase-index l.staircases)
