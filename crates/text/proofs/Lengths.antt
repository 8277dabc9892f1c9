-- How long the text of a table is.
use Rattle.std.proofs.Common.{ℕ, ◌*◌, ◌≤◌, List, [], ◌∷◌, ◌++◌, map, length, arith, length-append}
use Rattle.bounded.specs.List.{items}
use Rattle.std.proofs.lemmas.Fmt.{length-decimal-le}
use Rattle.std.proofs.lemmas.List.{length-take}
use Rattle.std.specs.List.{flat_map}
use Rattle.tasks.specs.Staircase.{staircase_of}
use Rattle.tasks.specs.Task.{task_of}
use Rattle.tasks.specs.declared.staircase.Staircase.{Staircase}
use Rattle.tasks.specs.declared.task.Task.{Task}
use Rattle.text.specs.Writing.{field_text, line_text, staircase_text, table_text}

-- the staircases as text
abbrev pub staircases_text : List Staircase → List ℕ
staircases_text ss = flat_map staircase_text (map staircase_of ss)

pub few_staircases : (t : Task) → length (items t.staircases) ≤ 4
few_staircases t =
    let h = length-take t.staircases.len t.staircases.slots in let w = t.staircases.within in omega arith

staircase_length : (s : Staircase) → length (staircase_text (staircase_of s)) ≤ 7
staircase_length s =
    let a = length-decimal-le 1 s.burst (omega arith) (omega (arith, s.burst_below)) (omega (arith, s.burst_below)) in
    let b = length-decimal-le 4 s.step (omega arith) (omega (arith, s.step_below)) (omega (arith, s.step_below)) in
    rw length-append (omega arith)

staircases_length : (ss : List Staircase) → length (staircases_text ss) ≤ 7 * length ss
staircases_length [] = omega arith
staircases_length (s ∷ ss) =
    let a = staircase_length s in
    let b = staircases_length ss in
    rw (length-append (staircase_text (staircase_of s)) (staircases_text ss)) (omega arith)

line_length : (t : Task) → (1 ≤ length (line_text (task_of t))) × (length (line_text (task_of t)) ≤ 41)
unfolding line_text
line_length t =
    let a = length-decimal-le 2 t.limit (omega arith) (omega (arith, t.limit_below)) (omega (arith, t.limit_below)) in
    let b = length-decimal-le 4 t.deadline (omega arith) (omega (arith, t.deadline_below)) (omega (arith, t.deadline_below)) in
    let n = staircases_length (items t.staircases) in
    let m = few_staircases t in
    let x = length-append (staircases_text (items t.staircases)) (10 ∷ []) in
    let y = length-append (field_text 32 t.deadline) (staircases_text (items t.staircases) ++ 10 ∷ []) in
    let z = length-append (field_text 32 t.limit) (field_text 32 t.deadline ++ (staircases_text (items t.staircases) ++ 10 ∷ [])) in
    (omega arith, omega arith)

pub table_length : (us : List Task) → (length us ≤ length (table_text (map task_of us))) × (length (table_text (map task_of us)) ≤ 41 * length us)
table_length [] = (omega arith, omega arith)
table_length (t ∷ us) =
    let a = line_length t in
    let b = table_length us in
    let n = length-append (line_text (task_of t)) (table_text (map task_of us)) in
    (omega arith, omega arith)
