-- The staircases of a line, as the reader's loop collects them.
use Rattle.std.proofs.Common.{◌≡◌, ℕ, zero, suc, ◌+◌, ◌-◌, ◌<◌, ◌≤◌, true, false, ltb, ◌⊎◌, List, [], ◌∷◌, ◌++◌, length, sym, refl, ap, ◌∙◌, inl, inr, arith}
use Rattle.bounded.specs.List.{pushed}
use Rattle.std.proofs.lemmas.Bool.{cond-true, lt-ltb}
use Rattle.std.proofs.lemmas.List.{length_push}
use Rattle.tasks.specs.Reply.{Refusal, refused, served, then}
use Rattle.text.specs.Bytes.{expect, starts}
use Rattle.text.specs.Line.{staircase, staircases_after}

-- one more is read behind those that were
module _ (ps qs : List (ℕ × ℕ)) (p : ℕ × ℕ) (fits : length ps < 4) (push : qs ≡ pushed 4 ps p) where
  pushed_there : qs ≡ ps ++ p ∷ []
  pushed_there = push ∙ cond-true (ltb (length ps) 4) _ _ (lt-ltb (length ps) 4 fits)

  pub one_more : length qs ≡ length ps + 1
  one_more = ap length pushed_there ∙ length_push ps p

  pub staircases_again : (line cs left next : List ℕ) → cs ≡ line → starts 32 left ≡ true → served (p, next) ≡ staircase cs left
      → staircases_after (4 - length qs) qs line next ≡ staircases_after (4 - length ps) ps line left
  staircases_again line cs left next b s e =
      let k : 4 - length ps ≡ suc (4 - length qs) = omega (arith, one_more) in
      let h : staircase line left ≡ served (p, next) = rw b at (sym e) in
      rw (k, s, h) (ap (λ l. staircases_after (4 - length qs) l line next) pushed_there)

-- one more is not read
pub staircases_stop : (ps : List (ℕ × ℕ)) (line cs left : List ℕ) (r : Refusal) → length ps < 4 → cs ≡ line → starts 32 left ≡ true → refused r ≡ staircase cs left
    → staircases_after (4 - length ps) ps line left ≡ refused r
staircases_stop ps line cs left r fits b s e =
    let k : 4 - length ps ≡ suc (3 - length ps) = omega arith in
    let h : staircase line left ≡ refused r = rw b at (sym e) in
    rw (k, s, h)

-- none is read where four were, or where no space follows
pub staircases_over : (ps : List (ℕ × ℕ)) (line left : List ℕ) → (4 ≤ length ps) ⊎ (starts 32 left ≡ false)
    → staircases_after (4 - length ps) ps line left ≡ then (expect 10 line left) (λ rest. served (ps, rest))
staircases_over ps line left over = at_count (4 - length ps) refl
  where
    at_count : (k : ℕ) → k ≡ 4 - length ps → staircases_after k ps line left ≡ then (expect 10 line left) (λ rest. served (ps, rest))
    at_count zero e = refl
    at_count (suc k) e = elim over [ inl h ↦ absurd (omega arith) | inr s ↦ rw s ]
