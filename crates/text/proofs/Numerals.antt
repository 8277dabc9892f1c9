-- The digits in front of a text, and numerals there and back.
use Rattle.std.proofs.Common.{◌≡◌, ℕ, ◌<◌, ◌≤◌, Bool, true, false, ◌&&◌, eqb, List, [], ◌∷◌, ◌++◌, length, get_or, drop, decimal, sym, refl, ap, ◌∙◌, inl, inr, arith, rules}
use Rattle.std.proofs.lemmas.Grind.{common_steps}
use Rattle.std.proofs.lemmas.Fmt.{decimal_digit, decimal_nonempty, decimal-digits_value, digits_decimal, first_decimal, digits_value-decimal}
use Rattle.std.proofs.lemmas.List.{drop_at, take-append-drop}
use Rattle.std.proofs.lemmas.Str.Parse.{IsNumeralModel, numerals_by_fold}
use Rattle.std.proofs.lemmas.Bool.{cases_lt, cond-false, cond-true, eq-eqb, eqb-true}
use Rattle.std.proofs.lemmas.Bool.Decides.{nat_tests}
use Rattle.std.specs.List.{prefix_len}
use Rattle.tasks.specs.Reply.{served}
use Rattle.text.proofs.Digits.{leading_length, leading_taken}
use Rattle.text.proofs.Replies.{served_if, served_unless, then_served}
use Rattle.text.specs.Bytes.{expect}
use Rattle.text.specs.Numeral.{field, is_digit, leading_digits, not_allowed, number_after, numeral, numeral_of}
use Rattle.text.specs.Writing.{field_text}

abbrev all_digits : List ℕ → Bool
all_digits [] = true
all_digits (b ∷ bs) = is_digit b && all_digits bs

own : IsNumeralModel (λ ds. all_digits ds ≡ true) (number_after 0)
own = numerals_by_fold _ (search rules) number_after (search rules)

leading_all : (bs : List ℕ) → all_digits (leading_digits bs) ≡ true
leading_all [] = refl
leading_all (b ∷ bs) = grind (arith, common_steps, leading_all bs)

leading_front : (bs : List ℕ) → leading_digits bs ++ drop (length (leading_digits bs)) bs ≡ bs
leading_front bs = rw (← leading_length bs, ← leading_taken bs) (take-append-drop (prefix_len is_digit bs) bs)

-- digits and then something else
leading_append : (ds rest : List ℕ) → all_digits ds ≡ true → leading_digits rest ≡ [] → leading_digits (ds ++ rest) ≡ ds
leading_append [] rest a n = n
leading_append (d ∷ ds) rest a n = grind (arith, common_steps, leading_append ds rest)

-- a single zero, or digits that begin with another one
lone_zero : (ds : List ℕ) → not_allowed ds ≡ false → get_or ds 0 0 ≡ 48 → 0 < length ds → length ds ≡ 1
lone_zero ds h z s = grind (arith, nat_tests)

small_number : (ds : List ℕ) → not_allowed ds ≡ false → number_after 0 ds ≤ 65535
small_number ds h = grind (arith, nat_tests)

decimal_allowed : (n : ℕ) → n ≤ 65535 → not_allowed (decimal n) ≡ false
decimal_allowed n h =
    let v : number_after 0 (decimal n) ≡ n = digits_value-decimal own n (omega arith) in
    elim (cases_lt n 10) [
      | inl l ↦ let k : length (decimal n) ≡ 1 = ap length (decimal_digit n l) in grind (arith, nat_tests)
      | inr l ↦ let k = first_decimal n (omega arith) (omega arith) in grind (arith, nat_tests)
    ]

-- what is read is what is written of it
numeral_of_written : (ds line left : List ℕ) (v : ℕ × List ℕ) → all_digits ds ≡ true
    → numeral_of ds line left ≡ served v → (decimal v.0 ≡ ds) × (v.1 ≡ drop (length ds) left)
numeral_of_written [] line left v a e = cc
numeral_of_written (d ∷ ds) line left v a e =
    let p = served_unless (not_allowed (d ∷ ds)) _ _ _ e in
    let w : (number_after 0 (d ∷ ds), drop (length (d ∷ ds)) left) ≡ v = cc p.1 in
    let i : v.0 ≡ number_after 0 (d ∷ ds) = sym (ap (λ q. q.0) w) in
    let s = small_number (d ∷ ds) p.0 in
    let k : decimal (number_after 0 (d ∷ ds)) ≡ d ∷ ds = decimal-digits_value own (d ∷ ds) a (omega arith) (λ z. lone_zero (d ∷ ds) p.0 z (omega arith)) (omega arith) in
    (rw i k, sym (ap (λ q. q.1) w))

numeral_written : (line left : List ℕ) (v : ℕ × List ℕ) → numeral line left ≡ served v → left ≡ decimal v.0 ++ v.1
unfolding numeral
numeral_written line left v e =
    let p = numeral_of_written (leading_digits left) line left v (leading_all left) e in
    rw (p.0, p.1) (sym (leading_front left))

pub expect_written : (b : ℕ) (line left rest : List ℕ) → expect b line left ≡ served rest → left ≡ b ∷ rest
expect_written b line [] rest e = cc
expect_written b line (x ∷ xs) rest e =
    let p = served_if (eqb x b) _ _ _ e in let i = eqb-true x b p.0 in cc p.1

pub field_written : (separator : ℕ) (line left : List ℕ) (v : ℕ × List ℕ)
    → field separator line left ≡ served v → left ≡ field_text separator v.0 ++ v.1
unfolding field
field_written separator line left v e =
    let p = then_served (expect separator line left) (numeral line) v e in
    expect_written separator line left p.0 p.1 ∙ ap (λ bs. separator ∷ bs) (numeral_written line p.0 v p.2)

-- what is written is read as it was
pub expect_here : (b : ℕ) (line rest : List ℕ) → expect b line (b ∷ rest) ≡ served rest
expect_here b line rest = cond-true (eqb b b) _ _ (eq-eqb b b refl)

numeral_of_decimal : (ds line left : List ℕ) → 0 < length ds → not_allowed ds ≡ false
    → numeral_of ds line left ≡ served (number_after 0 ds, drop (length ds) left)
numeral_of_decimal [] line left h a = absurd (omega arith)
numeral_of_decimal (d ∷ ds) line left h a = cond-false (not_allowed (d ∷ ds)) _ _ a

numeral_read : (n : ℕ) (line rest : List ℕ) → n ≤ 65535 → leading_digits rest ≡ []
    → numeral line (decimal n ++ rest) ≡ served (n, rest)
unfolding numeral
numeral_read n line rest h e =
    let d = leading_append (decimal n) rest (digits_decimal own n (omega arith)) e in
    let v : number_after 0 (decimal n) ≡ n = digits_value-decimal own n (omega arith) in
    let r = numeral_of_decimal (decimal n) line (decimal n ++ rest) (decimal_nonempty n (omega arith)) (decimal_allowed n h) in
    rw d (r ∙ (rw (v, drop_at (decimal n) rest (length (decimal n)) refl)))

pub field_read : (separator n : ℕ) (line rest : List ℕ) → n ≤ 65535 → leading_digits rest ≡ []
    → field separator line (field_text separator n ++ rest) ≡ served (n, rest)
unfolding field
field_read separator n line rest h e = rw (expect_here separator line (decimal n ++ rest)) (numeral_read n line rest h e)
