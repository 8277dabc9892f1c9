-- What the long staircase is, in words that do not say how it is found.
use Rattle.std.specs.Prelude.{◌≡◌, false, List}
use Rattle.std.specs.List.{ContainsAt, AllByRecursion}
use Rattle.tasks.specs.Staircase.{StaircaseModel, longer}

-- s is one of these staircases, and none of them is longer
pub record LongOf (ss : List StaircaseModel) (s : StaircaseModel) : Type 0 where
  pub own : ContainsAt ss s
  pub most : AllByRecursion (λ t. longer t s ≡ false) ss
