-- Numerals: the run of digits in front of what is left of a line.
use Rattle.std.specs.Prelude.{ℕ, ◌+◌, ◌-◌, ◌*◌, Bool, cond, ◌&&◌, ◌||◌, List, [], ◌∷◌, length, drop, ◌==◌, nat_le, nat_lt, slice_index}
use Rattle.tasks.specs.Reply.{Refusal, Reply, refused, served, then}
use Rattle.text.specs.Bytes.{expect, fault, place}

-- the bytes 48 to 57 are the digits 0 to 9
abbrev pub is_digit : ℕ → Bool
is_digit b = nat_le 48 b && nat_le b 57

-- the digits in front
abbrev pub leading_digits : List ℕ → List ℕ
leading_digits [] = []
leading_digits (b ∷ bs) = cond (is_digit b) (b ∷ leading_digits bs) []

-- the number that digits write behind those that gave n
abbrev pub number_after : ℕ → List ℕ → ℕ
number_after n [] = n
number_after n (d ∷ ds) = number_after (10 * n + (d - 48)) ds

-- a zero in front of another digit
abbrev pub leading_zero : List ℕ → Bool
leading_zero ds = slice_index ds 0 == 48 && nat_lt 1 (length ds)

-- what no numeral may be
abbrev pub not_allowed : List ℕ → Bool
not_allowed ds = leading_zero ds || nat_lt 65535 (number_after 0 ds)

-- the fault of such a numeral, at its first byte; the second value says why: 1, a leading zero; 2, above 65,535
abbrev pub numeral_fault : List ℕ → List ℕ → List ℕ → Refusal
numeral_fault ds line left = record { number = 19; values = place line left ∷ cond (leading_zero ds) 1 2 ∷ [] }

-- the numeral that these digits are
abbrev pub numeral_of : List ℕ → List ℕ → List ℕ → Reply (ℕ × List ℕ)
numeral_of [] line left = refused (fault 18 line left)
numeral_of (d ∷ ds) line left =
    cond (not_allowed (d ∷ ds)) (refused (numeral_fault (d ∷ ds) line left)) (served (number_after 0 (d ∷ ds), drop (length (d ∷ ds)) left))

-- the numeral in front
unfoldable pub numeral : List ℕ → List ℕ → Reply (ℕ × List ℕ)
numeral line left = numeral_of (leading_digits left) line left

-- a numeral behind the byte that parts it from what stands before it
unfoldable pub field : ℕ → List ℕ → List ℕ → Reply (ℕ × List ℕ)
field separator line left = then (expect separator line left) (numeral line)
