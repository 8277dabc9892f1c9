-- The digits in front of a text, as the reader finds them.
use Rattle.std.proofs.Common.{◌≡◌, ℕ, ◌+◌, ◌-◌, ◌*◌, ◌<◌, ◌≤◌, Bool, true, false, ltb, cond, ◌||◌, List, [], ◌∷◌, All, length, get_or, take, drop, Ok, Err, Result, refl, ap, ◌∙◌, arith}
use Rattle.std.proofs.lemmas.Grind.{common_steps}
use Rattle.std.proofs.lemmas.List.{at_drop_more, nil_from_length}
use Rattle.std.proofs.lemmas.List.Sums.{take_while-cons}
use Rattle.std.specs.List.{prefix_len}
use Rattle.tasks.specs.Reply.{Reply, refused, served}
use Rattle.text.specs.Bytes.{fault, place}
use Rattle.text.specs.Fault.{numeral_refusal}
use Rattle.text.specs.Numeral.{is_digit, leading_digits, leading_zero, number_after, numeral, numeral_of}
use Rattle.text.specs.declared.fault.NumeralFault.{NumeralFault}
use Rattle.text.specs.declared.fault.NumeralFault.TheVariants.{LeadingZero, TooLarge}

pub leading_taken : (bs : List ℕ) → take (prefix_len is_digit bs) bs ≡ leading_digits bs
leading_taken [] = refl
leading_taken (b ∷ bs) = rw (take_while-cons is_digit b bs, leading_taken bs)

pub leading_length : (bs : List ℕ) → prefix_len is_digit bs ≡ length (leading_digits bs)
leading_length [] = refl
leading_length (b ∷ bs) = grind (arith, common_steps, leading_length bs)

pub leading_above : (bs : List ℕ) → All (λ d. 48 ≤ d) (leading_digits bs)
leading_above [] = grind (arith, common_steps)
leading_above (b ∷ bs) = grind (arith, common_steps, leading_above bs)

number_after_ge : (n : ℕ) (ds : List ℕ) → n ≤ number_after n ds
number_after_ge n [] = omega arith
number_after_ge n (d ∷ ds) = let h = number_after_ge (10 * n + (d - 48)) ds in omega arith

-- the number never falls with a digit more
pub number_grows : (n : ℕ) (ds : List ℕ) (i : ℕ) → i < length ds → 10 * n + (get_or ds i 0 - 48) ≤ number_after n (drop i ds)
number_grows n ds i h =
    rw (at_drop_more (number_after n) ds i 0 h) (number_after_ge (10 * n + (get_or ds i 0 - 48)) (drop (i + 1) ds))

-- a numeral by its digits
pub numeral_none : (line left : List ℕ) → length (leading_digits left) ≡ 0 → numeral line left ≡ refused (fault 18 line left)
unfolding numeral
numeral_none line left h = rw (nil_from_length (leading_digits left) h)

pub numeral_some : (line left : List ℕ) → 0 < length (leading_digits left)
    → numeral line left ≡ cond (leading_zero (leading_digits left)) (refused (numeral_refusal (LeadingZero (place line left))))
    (cond {A = Reply (ℕ × List ℕ)} (ltb 65535 (number_after 0 (leading_digits left))) (refused (numeral_refusal (TooLarge (place line left)))) (served (number_after 0 (leading_digits left), drop (length (leading_digits left)) left)))
unfolding numeral
numeral_some line left h = by_digits (leading_digits left) h
  where
    by_test : (z l : Bool) (n : ℕ) (rest : List ℕ)
        → cond (z || l) (refused (record { number = 19; values = place line left ∷ cond z 1 2 ∷ [] })) (served (n, rest))
        ≡ cond z (refused (numeral_refusal (LeadingZero (place line left)))) (cond {A = Reply (ℕ × List ℕ)} l (refused (numeral_refusal (TooLarge (place line left)))) (served (n, rest)))
    by_test true l n rest = refl
    by_test false true n rest = refl
    by_test false false n rest = refl

    by_digits : (ds : List ℕ) → 0 < length ds
        → numeral_of ds line left ≡ cond (leading_zero ds) (refused (numeral_refusal (LeadingZero (place line left))))
        (cond {A = Reply (ℕ × List ℕ)} (ltb 65535 (number_after 0 ds)) (refused (numeral_refusal (TooLarge (place line left)))) (served (number_after 0 ds, drop (length ds) left)))
    by_digits [] h = absurd (omega arith)
    by_digits (d ∷ ds) h = by_test (leading_zero (d ∷ ds)) (ltb 65535 (number_after 0 (d ∷ ds))) (number_after 0 (d ∷ ds)) (drop (length (d ∷ ds)) left)

-- a numeral that has no fault is served
pub numeral_served : (line left ds : List ℕ) (v p q : ℕ) → ds ≡ leading_digits left → 0 < length ds
    → Ok v ≡ cond {A = Result ℕ NumeralFault} (leading_zero ds) (Err (LeadingZero p)) (cond (ltb 65535 (number_after 0 ds)) (Err (TooLarge q)) (Ok (number_after 0 ds)))
    → numeral line left ≡ served (v, drop (length ds) left)
numeral_served line left ds v p q same some e =
    numeral_some line left (omega (arith, ap length same)) ∙ rw (← same) (by_tests (leading_zero ds) (ltb 65535 (number_after 0 ds)) (number_after 0 ds) _ _ e)
  where
    by_tests : (z l : Bool) (n : ℕ) (r s : Reply (ℕ × List ℕ)) → Ok v ≡ cond {A = Result ℕ NumeralFault} z (Err (LeadingZero p)) (cond l (Err (TooLarge q)) (Ok n))
        → cond z r (cond l s (served (n, drop (length ds) left))) ≡ served (v, drop (length ds) left)
    by_tests true l n r s e = cc
    by_tests false true n r s e = cc
    by_tests false false n r s e = cc
