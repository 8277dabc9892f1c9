-- What an answer says, whatever type of the code carries it: the value of a call that was served, or a refusal. A refusal is
-- known by its number, which never changes its meaning, and by the values that go with it. Printing and recording use it too.
use Rattle.std.specs.Prelude.{ℕ, List, [], Ok, Err, Result}

pub record Refusal : Type 0 where
  pub number : ℕ
  pub values : List ℕ

pub data Reply (A : Type 0) : Type 0 where
  served : A → Reply A
  refused : Refusal → Reply A

-- a refusal that has no values
abbrev pub plain : ℕ → Refusal
plain n = record { number = n; values = [] }

-- what a Result says: `view` reads its value, `refusal` its error
abbrev pub reply : {T E A : Type 0} → (T → A) → (E → Refusal) → Result T E → Reply A
reply view refusal (Ok x) = served (view x)
reply view refusal (Err e) = refused (refusal e)

-- what f makes of the value of a served call; a refusal stays
abbrev pub then : {A B : Type 0} → Reply A → (A → Reply B) → Reply B
then (served a) f = f a
then (refused r) f = refused r
