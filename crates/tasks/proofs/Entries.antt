-- What is known of a staircase that was made, or was refused, beside those that come after it.
use Rattle.std.proofs.Common.{◌≡◌, ℕ, Bool, true, false, Some, None, Option, refl, ap, arith}
use Rattle.tasks.specs.Making.{look, unless_wrong}
use Rattle.tasks.specs.Reply.{Refusal, Reply, refused, served}
use Rattle.tasks.specs.declared.refusal.Quantity.{Quantity}

-- two quantities in range: only those after them can be wrong
pub right_then : {A : Type 0} (p q : Quantity) (a b : Bool) (x y : A) (rest : Option Quantity)
    → served x ≡ unless_wrong (look p a (look q b None)) (served y) → (look p a (look q b rest) ≡ rest) × (x ≡ y)
right_then p q true true x y rest e = (refl, cc)
right_then p q true false x y rest e = let z : ◌≡◌ {A = ℕ} 0 1 = cc in absurd (omega arith)
right_then p q false true x y rest e = let z : ◌≡◌ {A = ℕ} 0 1 = cc in absurd (omega arith)
right_then p q false false x y rest e = let z : ◌≡◌ {A = ℕ} 0 1 = cc in absurd (omega arith)

-- a refusal is the same one, whatever would have been served
still_refused : {A B : Type 0} (r s : Refusal) → ◌≡◌ {A = Reply A} (refused r) (refused s) → ◌≡◌ {A = Reply B} (refused r) (refused s)
still_refused r s e = let z : r ≡ s = cc in ap refused z

-- one of two quantities out of range: it is the one that is named, whatever comes after
pub wrong_then : {A B : Type 0} (p q : Quantity) (a b : Bool) (r : Refusal) (y : A) (rest : Option Quantity) (after : Reply B)
    → refused r ≡ unless_wrong (look p a (look q b None)) (served y) → refused r ≡ unless_wrong (look p a (look q b rest)) after
wrong_then p q true true r y rest after e = let z : ◌≡◌ {A = ℕ} 0 1 = cc in absurd (omega arith)
wrong_then p q true false r y rest after e = still_refused _ _ e
wrong_then p q false true r y rest after e = still_refused _ _ e
wrong_then p q false false r y rest after e = still_refused _ _ e

-- what is served is what nothing wrong lets through
pub served_is : {A : Type 0} (o : Option Quantity) (x y : A) → served x ≡ unless_wrong o (served y) → x ≡ y
served_is None x y e = cc
served_is (Some q) x y e = let z : ◌≡◌ {A = ℕ} 0 1 = cc in absurd (omega arith)
