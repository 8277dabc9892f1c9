use Rattle.std.proofs.Common.{◌≡◌, List, map, length, sym, ap, ◌∙◌, arith}
use Rattle.std.proofs.lemmas.List.{length-map}
use Rattle.bounded.specs.List.{items}
use Rattle.arrivals.specs.Bucket.{BucketModel, bucket_of}
use Rattle.arrivals.specs.declared.bucket.Bucket.{Bucket}
use Rattle.arrivals.proofs.counters.Counters.step.Goals as goal

-- whatever becomes of each bucket, there are as many as before
as_many : (f : BucketModel → BucketModel) (old new : List Bucket) → map bucket_of new ≡ map f (map bucket_of old) → length new ≡ length old
as_many f old new e = sym (length-map new bucket_of) ∙ ap length e ∙ length-map (map bucket_of old) f ∙ length-map old bucket_of

pub invariant_of-self : goal.invariant_of-self
invariant_of-self c =
    let old = items c.args.self.now.buckets in
    let new = items c.change_each.new.self in
    let same : length new ≡ length old = as_many _ old new c.change_each.ensures in
    let some = c.args.self.now.some in
    omega arith
