-- The sweep for the greatest amount with which a task passes: what its loop over the lengths has found so far.
use Rattle.std.proofs.Common.{◌≡◌, ℕ, suc, ◌+◌, ◌-◌, ◌*◌, ◌/◌, ◌<◌, ◌≤◌, min, max, cond, eqb, ◌↔◌, sym, ap, ◌∙◌, add-one, arith}
use Rattle.std.proofs.lemmas.Bool.Decides.{nat_tests}
use Rattle.fit.proofs.Sweeping.{slack_below, task_tells}
use Rattle.fit.specs.Weighing.{WeighsBelow}
use Rattle.search.specs.Ahead.{ahead_at}
use Rattle.search.specs.Turn.{PassesUpTo, own_demand}
use Rattle.search.specs.declared.turn.Turn.{Turn}
use Rattle.search.proofs.Searches.{long_enough, weighs_more}

-- The sweep for a task with the demand d behind tasks that may ask A began with `most` and has come to the length Δ, with the slack t
-- and the margin m.
pub record Swept (most : ℕ) (d A : ℕ → ℕ) (Δ t m : ℕ) : Type 0 where
  pub slack : t ≡ slack_below A Δ
  pub top : m ≤ most
  pub tells : (w : ℕ) → 0 < w → (w ≤ m) ↔ ((w ≤ most) × WeighsBelow Δ w d A)

-- one length more
pub swept_more : {most : ℕ} {d A : ℕ → ℕ} {Δ t m : ℕ} → Swept most d A Δ t m → (u n : ℕ) → u ≡ max t ((1024 * Δ - A Δ) / 1024)
    → n ≡ cond (eqb (d Δ) 0) m (min m (u - d Δ)) → n ≤ m → Swept most d A (Δ + 1) u n
swept_more {most} {d} {A} {Δ} {t} {m} s u n grown left le =
    let slack : u ≡ slack_below A (suc Δ) = grown ∙ ap (λ x. max x ((1024 * Δ - A Δ) / 1024)) s.slack in
    let same : n ≡ cond (eqb (d Δ) 0) m (min m (slack_below A (suc Δ) - d Δ)) = left ∙ ap (λ x. cond (eqb (d Δ) 0) m (min m (x - d Δ))) slack in
    record {
      slack = slack ∙ ap (slack_below A) (sym (add-one Δ));
      top = omega (arith, s.top);
      tells = λ w h.
          let here = task_tells A Δ (d Δ) m w h in
          let before = s.tells w h in (
            (λ le. let r = here.0 (omega (arith, same)) in let q = before.0 r.0 in (q.0, weighs_more w Δ d A q.1 r.1)),
            (λ r. omega (arith, same, here.1 (before.1 (r.0, (λ x lt k. r.1 x (omega arith) k)), r.1 Δ (omega arith)))),
          );
    }

-- where there is no demand the length does not decide
pub swept_idle : {most : ℕ} {d A : ℕ → ℕ} {Δ t m : ℕ} → Swept most d A Δ t m → (u n : ℕ) → u ≡ max t ((1024 * Δ - A Δ) / 1024)
    → d Δ ≡ 0 → n ≡ m → Swept most d A (Δ + 1) u n
swept_idle {d} {Δ} {m} s u n grown none same =
    swept_more s u n grown (same ∙ sym (idle m u (d Δ) none)) (omega arith)
  where
    idle : (m u d : ℕ) → d ≡ 0 → cond (eqb d 0) m (min m (u - d)) ≡ m
    idle m u d h = grind (arith, nat_tests)

pub swept_weighed : {most : ℕ} {d A : ℕ → ℕ} {Δ t m : ℕ} → Swept most d A Δ t m → (u n : ℕ) → u ≡ max t ((1024 * Δ - A Δ) / 1024)
    → 0 < d Δ → n ≡ min m (u - d Δ) → Swept most d A (Δ + 1) u n
swept_weighed {d} {Δ} {m} s u n grown some less =
    swept_more s u n grown (less ∙ sym (weighed m u (d Δ) some)) (omega arith)
  where
    weighed : (m u d : ℕ) → 0 < d → cond (eqb d 0) m (min m (u - d)) ≡ min m (u - d)
    weighed m u d h = grind (arith, nat_tests)

-- nothing later decides
pub swept_all : (turn : Turn) {most Δ t m : ℕ} → Swept most (own_demand turn) (ahead_at turn.ahead) Δ t m
    → (0 < m → 1024 * (m + turn.front.standing) ≤ Δ * (1024 - turn.front.shares)) → PassesUpTo turn most m
swept_all turn {most} {Δ} {t} {m} s far w h =
    let tells = s.tells w h in
    let enough = long_enough turn.front.standing turn.front.shares turn.front.light (own_demand turn) (ahead_at turn.ahead) turn.below m Δ w in (
      (λ le. let r = tells.0 le in (r.0, enough (far (omega arith)) le r.1)),
      (λ r. tells.1 (r.0, (λ x lt k. r.1 x k))),
    )
