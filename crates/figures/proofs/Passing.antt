-- What a test tells of one element holds of each element of a list that passes it.
use Rattle.std.proofs.Common.{◌≡◌, Bool, true, List, [], ◌∷◌}
use Rattle.std.proofs.lemmas.Bool.{and_parts}
use Rattle.std.specs.List.{list_all, AllByRecursion}

pub all_from_pass : {X : Type 0} (p : X → Bool) (P : X → Type 0) → ((x : X) → p x ≡ true → P x) → (xs : List X) → list_all p xs ≡ true → AllByRecursion P xs
all_from_pass p P tells [] e = tt
all_from_pass p P tells (x ∷ xs) e = let parts = and_parts (p x) (list_all p xs) e in (tells x parts.0, all_from_pass p P tells xs parts.1)
