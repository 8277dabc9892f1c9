-- Every task fits exactly if each fits behind the tasks of the lanes before it.
use Rattle.std.specs.Prelude.{ℕ, ◌↔◌, List, [], ◌∷◌, ◌++◌}
use Rattle.fit.specs.Fit.{AllFit, FitsBehind}
use Rattle.lanes.specs.Lane.{LaneModel}

-- each task of these lanes fits with w behind the tasks of the lanes `before` and those between
abbrev pub EachFitsBehind : ℕ → ℕ → List LaneModel → List LaneModel → Type 0
EachFitsBehind now w before [] = Unit {0}
EachFitsBehind now w before (l ∷ ls) = FitsBehind now w before l × EachFitsBehind now w (before ++ (l ∷ [])) ls

abbrev pub AllFitBehind : Type 0
AllFitBehind = (now w : ℕ) (ls : List LaneModel) → AllFit now w (λ y. 0) ls ↔ EachFitsBehind now w [] ls
