-- What is written of a draft's tasks reads back as them.
use Rattle.std.proofs.Common.{◌≡◌, ℕ, zero, suc, ◌+◌, ◌<◌, ◌≤◌, true, ltb, List, [], ◌∷◌, ◌++◌, map, length, None, sym, refl, ap, ◌∙◌, arith, length-append}
use Rattle.bounded.specs.List.{items}
use Rattle.std.proofs.lemmas.List.{append_assoc, append-nil, length-map, length-take}
use Rattle.std.proofs.lemmas.Bool.{cond-false, cond-true, le-leb, le-ltb, lt-ltb}
use Rattle.std.proofs.lemmas.Bool.Decides.{nat_tests}
use Rattle.tasks.specs.Draft.{draft_of}
use Rattle.tasks.specs.Making.{in_range, making, staircase_from, wrong_staircase}
use Rattle.tasks.specs.Reply.{served}
use Rattle.tasks.specs.Staircase.{pending_bound, staircase_of}
use Rattle.tasks.specs.Task.{TaskModel, task_of}
use Rattle.tasks.specs.declared.draft.Draft.{Draft}
use Rattle.tasks.specs.declared.staircase.Staircase.{Staircase}
use Rattle.tasks.specs.declared.task.Task.{Task}
use Rattle.text.proofs.Lengths.{few_staircases, staircases_text, table_length}
use Rattle.text.proofs.Numerals.{expect_here, field_read}
use Rattle.text.proofs.WrittenBack.{line_and_rest}
use Rattle.text.specs.Bytes.{expect_all}
use Rattle.text.specs.Line.{line_entered, numbers, staircase, staircases, staircases_after}
use Rattle.text.specs.Numeral.{field, leading_digits}
use Rattle.text.specs.Reading.{lines, reading}
use Rattle.text.specs.RoundTrip.{ReadsBack}
use Rattle.text.specs.Writing.{field_text, line_text, staircase_text, table_text, task_word}

abbrev pair_of : Staircase → ℕ × ℕ
pair_of s = (s.burst, s.step)

-- the numbers of a task are those that it is made from
in_range_true : (low high n : ℕ) → low ≤ n → n ≤ high → in_range low high n ≡ true
in_range_true low high n a b = grind (arith, nat_tests)

none_wrong : (k : ℕ) (ss : List Staircase) → wrong_staircase k (map pair_of ss) ≡ None
none_wrong k [] = refl
none_wrong k (s ∷ ss) =
    let b = in_range_true 1 8 s.burst s.burst_above s.burst_below in
    let d = in_range_true 1 4096 s.step s.step_above s.step_below in
    rw (b, d) (none_wrong (k + 1) ss)

from_pairs : (ss : List Staircase) → map staircase_from (map pair_of ss) ≡ map staircase_of ss
from_pairs [] = refl
from_pairs (s ∷ ss) = ap (λ l. staircase_of s ∷ l) (from_pairs ss)

making_of : (t : Task) → making t.limit t.deadline (map pair_of (items t.staircases)) ≡ served (task_of t)
making_of t =
    let ss = items t.staircases in
    let n = length-map ss pair_of in
    let few = few_staircases t in
    let a = in_range_true 1 64 t.limit t.limit_above t.limit_below in
    let b = in_range_true 1 1024 t.deadline t.deadline_above t.deadline_below in
    let d = in_range_true 1 4 (length (map pair_of ss)) (omega (arith, t.bounded_arrivals)) (omega arith) in
    let w = none_wrong 1 ss in
    let p = le-leb (pending_bound t.deadline (map staircase_of ss)) 8 t.few_pending in
    rw (a, b, d, w, from_pairs ss, p)

staircase_read : (s : Staircase) (line rest : List ℕ) → leading_digits rest ≡ []
    → staircase line (staircase_text (staircase_of s) ++ rest) ≡ served (pair_of s, rest)
unfolding staircase
staircase_read s line rest e =
    let b = s.burst_below in
    let d = s.step_below in
    rw (append_assoc (field_text 32 s.burst) (field_text 47 s.step) rest, field_read 32 s.burst line (field_text 47 s.step ++ rest) (omega arith) refl, field_read 47 s.step line rest (omega arith) e)

-- no digit stands behind a staircase
no_digit : (ss : List Staircase) (rest : List ℕ) → leading_digits (staircases_text ss ++ (10 ∷ rest)) ≡ []
no_digit [] rest = refl
no_digit (s ∷ ss) rest = refl

staircases_after_read : (k : ℕ) (ps : List (ℕ × ℕ)) (ss : List Staircase) (line rest : List ℕ) → length ss ≤ k
    → staircases_after k ps line (staircases_text ss ++ (10 ∷ rest)) ≡ served (ps ++ map pair_of ss, rest)
staircases_after_read zero ps [] line rest h = rw append-nil
staircases_after_read zero ps (s ∷ ss) line rest h = absurd (omega arith)
staircases_after_read (suc k) ps [] line rest h = rw append-nil
staircases_after_read (suc k) ps (s ∷ ss) line rest h =
    let R = staircases_text ss ++ (10 ∷ rest) in
    rw (append_assoc (staircase_text (staircase_of s)) (staircases_text ss) (10 ∷ rest), staircase_read s line R (no_digit ss rest))
    (staircases_after_read k (ps ++ pair_of s ∷ []) ss line rest (omega arith) ∙ ap (λ l. served (l, rest)) (append_assoc ps (pair_of s ∷ []) (map pair_of ss)))

staircases_read : (ss : List Staircase) (line rest : List ℕ) → 1 ≤ length ss → length ss ≤ 4
    → staircases line (staircases_text ss ++ (10 ∷ rest)) ≡ served (map pair_of ss, rest)
unfolding staircases
staircases_read [] line rest a b = absurd (omega arith)
staircases_read (s ∷ ss) line rest a b =
    let R = staircases_text ss ++ (10 ∷ rest) in
    rw (append_assoc (staircase_text (staircase_of s)) (staircases_text ss) (10 ∷ rest), staircase_read s line R (no_digit ss rest))
    (staircases_after_read 3 (pair_of s ∷ []) ss line rest (omega arith))

expect_all_here : (bs line rest : List ℕ) → expect_all bs line (bs ++ rest) ≡ served rest
expect_all_here [] line rest = refl
expect_all_here (b ∷ bs) line rest = rw (expect_here b line (bs ++ rest)) (expect_all_here bs line rest)

-- a line from what its parts give
pub numbers_from : (line C D S rest : List ℕ) (c d : ℕ) (ps : List (ℕ × ℕ))
    → expect_all task_word line line ≡ served C → field 32 line C ≡ served (c, D) → field 32 line D ≡ served (d, S) → staircases line S ≡ served (ps, rest)
    → numbers line ≡ served (record { limit = c; deadline = d; staircases = ps }, rest)
unfolding numbers
numbers_from line C D S rest c d ps h i j k = rw (h, i, j, k)

numbers_read : (t : Task) (rest : List ℕ)
    → numbers (line_text (task_of t) ++ rest) ≡ served (record { limit = t.limit; deadline = t.deadline; staircases = map pair_of (items t.staircases) }, rest)
unfolding line_text
numbers_read t rest =
    let line = line_text (task_of t) ++ rest in
    let ss = items t.staircases in
    let S = staircases_text ss ++ (10 ∷ rest) in
    let D = field_text 32 t.deadline ++ S in
    let C = field_text 32 t.limit ++ D in
    let c = t.limit_below in
    let d = t.deadline_below in
    let same = line_and_rest task_word (field_text 32 t.limit) (field_text 32 t.deadline) (staircases_text ss) rest in
    numbers_from line C D S rest t.limit t.deadline (map pair_of ss)
    (ap (expect_all task_word line) (sym same) ∙ expect_all_here task_word line C)
    (field_read 32 t.limit line D (omega arith) refl)
    (field_read 32 t.deadline line S (omega arith) (no_digit ss rest))
    (staircases_read ss line rest t.bounded_arrivals (few_staircases t))

line_entered_read : (ts : List TaskModel) (t : Task) (rest : List ℕ) → length ts < 8
    → line_entered ts (line_text (task_of t) ++ rest) ≡ served (ts ++ task_of t ∷ [], rest)
unfolding line_entered
line_entered_read ts t rest h = rw (numbers_read t rest, cond-true (ltb (length ts) 8) _ _ (lt-ltb (length ts) 8 h), making_of t)

lines_read : (turns number : ℕ) (ts : List TaskModel) (us : List Task) (text : List ℕ) → length us ≤ turns → length ts + length us ≤ 8
    → lines turns number ts text (table_text (map task_of us)) ≡ served (ts ++ map task_of us)
unfolding line_text
lines_read zero number ts [] text a b = rw append-nil
lines_read (suc turns) number ts [] text a b = rw append-nil
lines_read zero number ts (t ∷ us) text a b = absurd (omega arith)
lines_read (suc turns) number ts (t ∷ us) text a b =
    let n = length-append ts (task_of t ∷ []) in
    rw (line_entered_read ts t (table_text (map task_of us)) (omega arith))
    (lines_read turns (number + 1) (ts ++ task_of t ∷ []) us text (omega arith) (omega arith) ∙ ap served (append_assoc ts (task_of t ∷ []) (map task_of us)))

pub reads_back : (us : List Task) → length us ≤ 8 → ReadsBack (map task_of us)
unfolding reading
reads_back us h =
    let text = table_text (map task_of us) in
    let n = table_length us in
    cond-false (ltb 4096 (length text)) _ _ (le-ltb 4096 (length text) (omega arith))
    ∙ lines_read (length text) 1 [] us text (omega arith) (omega arith)

pub draft_reads_back : (d : Draft) → ReadsBack (draft_of d)
draft_reads_back d = reads_back (items d.tasks) (omega (arith, length-take d.tasks.len d.tasks.slots, d.tasks.within))
