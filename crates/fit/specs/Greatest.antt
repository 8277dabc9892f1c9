-- The greatest amount from 0 to 1024 that passes.
use Rattle.std.specs.Prelude.{◌≡◌, ℕ, zero, suc, ◌≤◌, Bool, cond, ◌⊎◌, ◌↔◌}

-- the greatest number from 0 to n that passes, or 0 if there is none
unfoldable pub greatest : (ℕ → Bool) → ℕ → ℕ
greatest p zero = 0
greatest p (suc n) = cond (p (suc n)) (suc n) (greatest p n)

-- r is the greatest amount from 0 to 1024 that has P, or 0 because none has
pub record Greatest (P : ℕ → Type 0) (r : ℕ) : Type 0 where
  pub top : r ≤ 1024
  pub which : ((w : ℕ) → w ≤ 1024 → P w ↔ (w ≤ r)) ⊎ (((w : ℕ) → w ≤ 1024 → P w → ⊥) × (r ≡ 0))
