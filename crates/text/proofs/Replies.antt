-- What a served reply tells of the replies that it was made from.
use Rattle.std.proofs.Common.{◌≡◌, ℕ, Bool, true, false, cond, refl}
use Rattle.text.specs.Reading.{placed_at}
use Rattle.tasks.specs.Reply.{Refusal, Reply, refused, served, then}

pub then_served : {A B : Type 0} (x : Reply A) (f : A → Reply B) (b : B)
    → then x f ≡ served b → (a : A) × (x ≡ served a) × (f a ≡ served b)
then_served (served a) f b e = (a, refl, e)
then_served (refused r) f b e = cc

-- served behind a test that stands for a refusal
pub served_unless : {A : Type 0} (t : Bool) (r : Refusal) (x : Reply A) (a : A)
    → cond t (refused r) x ≡ served a → (t ≡ false) × (x ≡ served a)
served_unless true r x a e = cc
served_unless false r x a e = (refl, e)

pub served_if : {A : Type 0} (t : Bool) (r : Refusal) (x : Reply A) (a : A)
    → cond t x (refused r) ≡ served a → (t ≡ true) × (x ≡ served a)
served_if true r x a e = (refl, e)
served_if false r x a e = cc

-- a place that a layer adds changes only a refusal
pub placed_served : {A : Type 0} (p : ℕ) (x : Reply A) (a : A) → placed_at p x ≡ served a → x ≡ served a
placed_served p (served b) a e = e
placed_served p (refused r) a e = cc
