-- What holds of lanes that have had no arrival.
use Rattle.std.proofs.Common.{◌≡◌, ℕ, Bool, true, false, cond, List, [], ◌∷◌, map, Some, None, sym, refl, ap, ◌∙◌, arith}
use Rattle.fit.specs.Exact.{exact_allowance, fresh_allowance_of}
use Rattle.fit.specs.WellFormed.{all_in_order}
use Rattle.lanes.proofs.Fresh.{tasks_of_fresh}
use Rattle.lanes.specs.Lane.{LaneModel, fresh_lane, tasks_of}
use Rattle.tasks.specs.Task.{TaskModel}

-- there is no job that could be out of order
pub fresh_in_order : (now : ℕ) (ts : List TaskModel) → all_in_order now (map fresh_lane ts) ≡ true
fresh_in_order now [] = refl
fresh_in_order now (t ∷ ts) = fresh_in_order now ts

-- the exact allowance of such lanes is the fresh allowance of their tasks
pub fresh_exact : (ls : List LaneModel) (ts : List TaskModel) → ls ≡ map fresh_lane ts → exact_allowance 0 ls ≡ fresh_allowance_of (tasks_of ls)
fresh_exact ls ts e = ap (exact_allowance 0) e ∙ ap (λ us. exact_allowance 0 (map fresh_lane us)) (sym (ap tasks_of e ∙ tasks_of_fresh ts))

-- nothing is granted yet
pub nothing_granted : (b : Bool) → ◌≡◌ {A = ℕ} (cond b 0 0) 0
nothing_granted true = refl
nothing_granted false = refl

-- lanes that were made are those of the tasks
pub made_fresh : (b : Bool) (ls fresh : List LaneModel) → Some ls ≡ cond b (Some fresh) None → ls ≡ fresh
made_fresh true ls fresh e = cc
made_fresh false ls fresh e = let z : ◌≡◌ {A = ℕ} 0 1 = cc in absurd (omega arith)
