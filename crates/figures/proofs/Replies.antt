-- Whether two replies are the same, as a test that computes.
use Rattle.std.proofs.Common.{◌≡◌, ℕ, Bool, true, false, ◌&&◌, eqb, List, ap, ◌∙◌, arith}
use Rattle.std.proofs.lemmas.Slice.Eq.{bytes_eq-Decides}
use Rattle.std.proofs.lemmas.Bool.{and_parts, eqb-true}
use Rattle.std.specs.Str.{bytes_eq}
use Rattle.tasks.specs.Reply.{Refusal, Reply, refused, served}

-- two refusals have the same number and the same values; `bytes_eq` compares any numbers
abbrev pub same_reply : Reply ℕ → Reply ℕ → Bool
same_reply (served m) (served n) = eqb m n
same_reply (served m) (refused r) = false
same_reply (refused q) (served n) = false
same_reply (refused q) (refused r) = eqb q.number r.number && bytes_eq q.values r.values

same_refusal : (q r : Refusal) → q.number ≡ r.number → q.values ≡ r.values → q ≡ r
same_refusal q r e f = ap (λ n. made n q.values) e ∙ ap (made r.number) f
  where
    made : ℕ → List ℕ → Refusal
    made n ns = record { number = n; values = ns }

pub same_reply_tells : (a b : Reply ℕ) → same_reply a b ≡ true → a ≡ b
same_reply_tells (served m) (served n) e = ap served (eqb-true m n e)
same_reply_tells (served m) (refused r) e = let z : ◌≡◌ {A = ℕ} 0 1 = cc in absurd (omega arith)
same_reply_tells (refused q) (served n) e = let z : ◌≡◌ {A = ℕ} 0 1 = cc in absurd (omega arith)
same_reply_tells (refused q) (refused r) e =
    let parts = and_parts (eqb q.number r.number) (bytes_eq q.values r.values) e in
    ap refused (same_refusal q r (eqb-true q.number r.number parts.0) ((bytes_eq-Decides q.values r.values).0 parts.1))
