-- A text that reads is what is written of the tasks read.
use Rattle.std.proofs.Common.{◌≡◌, ℕ, zero, suc, ◌+◌, ◌<◌, Bool, true, false, cond, ltb, leb, List, [], ◌∷◌, ◌++◌, map, length, Some, None, Option, sym, refl, ap, ◌∙◌, arith, length-append}
use Rattle.std.proofs.lemmas.List.{append_assoc, append-nil, flat_map_more, map_push}
use Rattle.std.specs.List.{flat_map}
use Rattle.tasks.specs.Draft.{unless_full}
use Rattle.tasks.specs.Making.{making, staircase_from, unless_wrong, unless_too_many, wrong_quantity}
use Rattle.tasks.specs.Reply.{Reply, refused, served, then}
use Rattle.tasks.specs.Staircase.{pending_bound}
use Rattle.tasks.specs.Task.{TaskModel}
use Rattle.tasks.specs.declared.refusal.Quantity.{Quantity}
use Rattle.text.proofs.Numerals.{expect_written, field_written}
use Rattle.text.proofs.Replies.{placed_served, served_if, served_unless, then_served}
use Rattle.text.specs.Bytes.{expect, expect_all, place, starts}
use Rattle.text.specs.Line.{Numbers, entry_made, line_entered, numbers, staircase, staircases, staircases_after}
use Rattle.text.specs.Numeral.{field}
use Rattle.text.specs.Reading.{lines, placed_at, reading}
use Rattle.text.specs.RoundTrip.{WrittenBack}
use Rattle.text.specs.Writing.{field_text, line_text, staircase_text, table_text, task_word}

-- the staircases of a line as text
abbrev pairs_text : List (ℕ × ℕ) → List ℕ
pairs_text ps = flat_map staircase_text (map staircase_from ps)

-- the task that the numbers of a line give
abbrev task_from : Numbers → TaskModel
task_from e = record { limit = e.limit; deadline = e.deadline; staircases = map staircase_from e.staircases }

joined_push : {X A : Type 0} (f : X → List A) (xs : List X) (x : X) → flat_map f (xs ++ x ∷ []) ≡ flat_map f xs ++ f x
joined_push f xs x = sym (flat_map_more f [] xs x)

pairs_text_push : (ps : List (ℕ × ℕ)) (p : ℕ × ℕ) → pairs_text (ps ++ p ∷ []) ≡ pairs_text ps ++ staircase_text (staircase_from p)
pairs_text_push ps p = rw map_push (joined_push staircase_text (map staircase_from ps) (staircase_from p))

expect_all_written : (bs line left rest : List ℕ) → expect_all bs line left ≡ served rest → left ≡ bs ++ rest
expect_all_written [] line left rest e = cc
expect_all_written (b ∷ bs) line left rest e =
    let p = then_served (expect b line left) (expect_all bs line) rest e in
    expect_written b line left p.0 p.1 ∙ ap (λ l. b ∷ l) (expect_all_written bs line p.0 rest p.2)

staircase_written : (line left : List ℕ) (v : (ℕ × ℕ) × List ℕ)
    → staircase line left ≡ served v → left ≡ staircase_text (staircase_from v.0) ++ v.1
unfolding staircase
staircase_written line left v e =
    let p = then_served (field 32 line left) _ v e in
    let q = then_served (field 47 line p.0.1) _ v p.2 in
    let w : ((p.0.0, q.0.0), q.0.1) ≡ v = cc q.2 in
    rw (← w)
    (field_written 32 line left p.0 p.1
    ∙ ap (λ l. field_text 32 p.0.0 ++ l) (field_written 47 line p.0.1 q.0 q.1)
    ∙ sym (append_assoc (field_text 32 p.0.0) (field_text 47 q.0.0) q.0.1))

end_written : (ps : List (ℕ × ℕ)) (line left : List ℕ) (v : List (ℕ × ℕ) × List ℕ)
    → then (expect 10 line left) (λ rest. served (ps, rest)) ≡ served v → pairs_text ps ++ left ≡ pairs_text v.0 ++ (10 ∷ v.1)
end_written ps line left v e =
    let p = then_served (expect 10 line left) _ v e in
    let w : (ps, p.0) ≡ v = cc p.2 in
    rw (← w) (ap (λ l. pairs_text ps ++ l) (expect_written 10 line left p.0 p.1))

staircases_after_written : (k : ℕ) (ps : List (ℕ × ℕ)) (line left : List ℕ) (v : List (ℕ × ℕ) × List ℕ)
    → staircases_after k ps line left ≡ served v → pairs_text ps ++ left ≡ pairs_text v.0 ++ (10 ∷ v.1)
staircases_after_written zero ps line left v e = end_written ps line left v e
staircases_after_written (suc k) ps line left v e = by_test (starts 32 left) (λ p l h. staircases_after_written k (ps ++ p ∷ []) line l v h) e
  where
    by_test : (t : Bool)
        → ((p : ℕ × ℕ) (l : List ℕ) → staircases_after k (ps ++ p ∷ []) line l ≡ served v → pairs_text (ps ++ p ∷ []) ++ l ≡ pairs_text v.0 ++ (10 ∷ v.1))
        → cond t (then (staircase line left) (λ p. staircases_after k (ps ++ p.0 ∷ []) line p.1)) (then (expect 10 line left) (λ rest. served (ps, rest))) ≡ served v
        → pairs_text ps ++ left ≡ pairs_text v.0 ++ (10 ∷ v.1)
    by_test true more e =
        let p = then_served (staircase line left) _ v e in
        ap (λ l. pairs_text ps ++ l) (staircase_written line left p.0 p.1)
        ∙ sym (append_assoc (pairs_text ps) (staircase_text (staircase_from p.0.0)) p.0.1)
        ∙ ap (λ l. l ++ p.0.1) (sym (pairs_text_push ps p.0.0))
        ∙ more p.0.0 p.0.1 p.2
    by_test false more e = end_written ps line left v e

staircases_written : (line left : List ℕ) (v : List (ℕ × ℕ) × List ℕ)
    → staircases line left ≡ served v → left ≡ pairs_text v.0 ++ (10 ∷ v.1)
unfolding staircases
staircases_written line left v e =
    let p = then_served (staircase line left) _ v e in
    staircase_written line left p.0 p.1
    ∙ ap (λ l. l ++ p.0.1) (sym (append-nil (staircase_text (staircase_from p.0.0))))
    ∙ staircases_after_written 3 (p.0.0 ∷ []) line p.0.1 v p.2

-- a line's text and what stands behind it
pub line_and_rest : (a b c d rest : List ℕ) → a ++ (b ++ (c ++ (d ++ 10 ∷ rest))) ≡ a ++ (b ++ (c ++ (d ++ 10 ∷ []))) ++ rest
line_and_rest a b c d rest = simp append_assoc

numbers_written : (line : List ℕ) (v : Numbers × List ℕ) → numbers line ≡ served v → line ≡ line_text (task_from v.0) ++ v.1
unfolding numbers line_text
numbers_written line v e =
    let w = then_served (expect_all task_word line line) _ v e in
    let c = then_served (field 32 line w.0) _ v w.2 in
    let d = then_served (field 32 line c.0.1) _ v c.2 in
    let s = then_served (staircases line d.0.1) _ v d.2 in
    let z : (record { limit = c.0.0; deadline = d.0.0; staircases = s.0.0 }, s.0.1) ≡ v = cc s.2 in
    let h = expect_all_written task_word line line w.0 w.1 in
    let i = field_written 32 line w.0 c.0 c.1 in
    let j = field_written 32 line c.0.1 d.0 d.1 in
    let k = staircases_written line d.0.1 s.0 s.1 in
    rw (← z) (h ∙ ap (λ l. task_word ++ l) (i ∙ ap (λ l. field_text 32 c.0.0 ++ l) (j ∙ ap (λ l. field_text 32 d.0.0 ++ l) k)) ∙ line_and_rest task_word (field_text 32 c.0.0) (field_text 32 d.0.0) (pairs_text s.0.0) s.0.1)

unless_wrong_served : (o : Option Quantity) (x : Reply TaskModel) (t : TaskModel) → unless_wrong o x ≡ served t → x ≡ served t
unless_wrong_served None x t e = e
unless_wrong_served (Some q) x t e = cc

-- a task that is made has the numbers that it was made from
making_same : (e : Numbers) (t : TaskModel) → making e.limit e.deadline e.staircases ≡ served t → task_from e ≡ t
making_same e t h =
    let u = unless_wrong_served (wrong_quantity e.limit e.deadline e.staircases) (unless_too_many (task_from e)) t h in
    let p = served_if (leb (pending_bound e.deadline (map staircase_from e.staircases)) 8) _ _ t u in
    cc p.1

entry_written : (ts : List TaskModel) (x : Reply TaskModel) (rest : List ℕ) (v : List TaskModel × List ℕ)
    → entry_made ts x rest ≡ served v → (t : TaskModel) × (x ≡ served t) × ((ts ++ t ∷ [], rest) ≡ v)
entry_written ts (served t) rest v e = (t, refl, cc)
entry_written ts (refused r) rest v e = cc

line_entered_written : (ts : List TaskModel) (line : List ℕ) (v : List TaskModel × List ℕ)
    → line_entered ts line ≡ served v → table_text ts ++ line ≡ table_text v.0 ++ v.1
unfolding line_entered
line_entered_written ts line v e =
    let n = then_served (numbers line) _ v e in
    let p = entry_written ts (unless_full ts (making n.0.0.limit n.0.0.deadline n.0.0.staircases)) n.0.1 v n.2 in
    let m = served_if (ltb (length ts) 8) _ _ p.0 p.1 in
    let same = making_same n.0.0 p.0 m.1 in
    let whole = numbers_written line n.0 n.1 in
    rw (← p.2)
    (ap (λ l. table_text ts ++ l) (whole ∙ ap (λ t. line_text t ++ n.0.1) same)
    ∙ sym (append_assoc (table_text ts) (line_text p.0) n.0.1)
    ∙ ap (λ l. l ++ n.0.1) (sym (joined_push line_text ts p.0)))

-- a line that is entered leaves fewer bytes
pub line_entered_shorter : (ts : List TaskModel) (line : List ℕ) (v : List TaskModel × List ℕ)
    → line_entered ts line ≡ served v → length v.1 < length line
unfolding line_entered line_text
line_entered_shorter ts line v e =
    let n = then_served (numbers line) _ v e in
    let p = entry_written ts (unless_full ts (making n.0.0.limit n.0.0.deadline n.0.0.staircases)) n.0.1 v n.2 in
    let l = ap length (numbers_written line n.0 n.1) ∙ length-append (line_text (task_from n.0.0)) n.0.1 in
    let m : length v.1 ≡ length n.0.1 = sym (ap (λ q. length q.1) p.2) in
    omega arith

lines_written : (turns number : ℕ) (ts : List TaskModel) (text left : List ℕ) (us : List TaskModel)
    → lines turns number ts text left ≡ served us → table_text ts ++ left ≡ table_text us
lines_written zero number ts text [] us e = let z : ts ≡ us = cc in append-nil (table_text ts) ∙ ap table_text z
lines_written zero number ts text (b ∷ bs) us e = cc
lines_written (suc turns) number ts text [] us e = let z : ts ≡ us = cc in append-nil (table_text ts) ∙ ap table_text z
lines_written (suc turns) number ts text (b ∷ bs) us e =
    let start = place text (b ∷ bs) in
    let line = line_entered ts (b ∷ bs) in
    let p = then_served (placed_at number (placed_at start line)) _ us e in
    let l = placed_served start line p.0 (placed_served number (placed_at start line) p.0 p.1) in
    line_entered_written ts (b ∷ bs) p.0 l ∙ lines_written turns (number + 1) p.0.0 text p.0.1 us p.2

pub written_back : (text : List ℕ) → WrittenBack text
unfolding reading
written_back text ts e =
    let p = served_unless (ltb 4096 (length text)) _ _ ts e in sym (lines_written (length text) 1 [] text text ts p.1)
