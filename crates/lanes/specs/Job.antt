-- Lists of pending jobs: what each of them holds, and how much work they are.
use Rattle.std.specs.Prelude.{ℕ, ◌+◌, Bool, true, cond, ◌&&◌, List, [], ◌∷◌, nat_le}
use Rattle.lanes.specs.declared.job.Job.{Job}

-- each job has something left, and at most the limit
abbrev pub within_limit : ℕ → List Job → Bool
within_limit limit [] = true
within_limit limit (j ∷ js) = (nat_le 1 j.remaining && nat_le j.remaining limit) && within_limit limit js

-- the due clocks do not fall along the list, and lie from low to high
abbrev pub in_order : ℕ → ℕ → List Job → Bool
in_order low high [] = true
in_order low high (j ∷ js) = (nat_le low j.due && nat_le j.due high) && in_order j.due high js

-- the backlog: what remains of all of them
abbrev pub backlog : List Job → ℕ
backlog [] = 0
backlog (j ∷ js) = j.remaining + backlog js

-- what remains of those that are due at the reading t or before
abbrev pub due_by : ℕ → List Job → ℕ
due_by t [] = 0
due_by t (j ∷ js) = cond (nat_le j.due t) j.remaining 0 + due_by t js
