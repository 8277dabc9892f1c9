-- What the counter of one staircase knows of the arrivals. `A u` is how many arrivals came at the instant u or later.
use Rattle.std.proofs.Common.{◌≡◌, ℕ, ◌+◌, ◌-◌, ◌*◌, ◌/◌, ◌<◌, ◌≤◌, cond, eqb, ◌↔◌, ap, ◌∙◌, inl, inr, mul-le-mul_right, arith}
use lib.Arith.{digits_div}
use Rattle.std.proofs.lemmas.Bool.{cases_lt, cond_both, eqb-false, eqb-true}
use Rattle.tasks.specs.Staircase.{StaircaseModel, allowed_in}
use Rattle.arrivals.proofs.Quotients.{below_quotient}
use Rattle.arrivals.specs.Counter.{age, counter_after, tokens}
use Rattle.arrivals.specs.declared.counter.Counter.{Counter}
use Rattle.arrivals.specs.declared.counter.Counter.TheVariants.{Full, Short}
use Rattle.arrivals.specs.declared.counter.Event.TheVariants.{Arrival, Tick}

-- a short counter has fewer tokens than the burst and is younger than a step
abbrev pub Within : StaircaseModel → Counter → Type 0
Within s Full = Unit {0}
Within s (Short t g) = (t < s.burst) × (g < s.step)

-- with t tokens at the age g: t more arrivals now, and still no window that ends now would hold too many
abbrev pub Below : StaircaseModel → ℕ → (ℕ → ℕ) → ℕ → ℕ → Type 0
Below s now A t g = (u : ℕ) → u ≤ now → (A u + t) * s.step + u + g ≤ s.burst * s.step + now

-- a short counter is exact: with t more arrivals now, the window from some u to now would hold all that it may, which is
-- burst + q for q steps
abbrev pub Reached : StaircaseModel → ℕ → (ℕ → ℕ) → Counter → Type 0
Reached s now A Full = Unit {0}
Reached s now A (Short t g) = (u : ℕ) × (q : ℕ) × (u + q * s.step + g ≡ now) × (A u + t ≡ s.burst + q)

pub record Counts (s : StaircaseModel) (now : ℕ) (A : ℕ → ℕ) (c : Counter) : Type 0 where
  pub within : Within s c
  pub below : Below s now A (tokens s c) (age c)
  pub reached : Reached s now A c

-- nothing came and the counter is full
pub counts_full : (s : StaircaseModel) (now : ℕ) (A : ℕ → ℕ) → ((u : ℕ) → A u ≡ 0) → Counts s now A Full
counts_full s now A none = record { within = tt; below = λ u h. rw (none u) (omega arith); reached = tt }

-- A tick. Nothing has come at the new instant.
below_tick : (s : StaircaseModel) (now : ℕ) (A : ℕ → ℕ) (t g h : ℕ) → A (now + 1) ≡ 0 → h ≤ g + 1 → t * s.step + h ≤ s.burst * s.step
    → Below s now A t g → Below s (now + 1) A t h
below_tick s now A t g h none older room b u le =
    elim (cases_lt now u) [
      | inl a ↦ let at : u ≡ now + 1 = omega arith in let z : A u ≡ 0 = ap A at ∙ none in rw z (omega arith)
      | inr a ↦ omega (arith, b u a)
    ]

pub counts_tick : (s : StaircaseModel) (now : ℕ) (A : ℕ → ℕ) (c : Counter) → 1 ≤ s.step → A (now + 1) ≡ 0 → Counts s now A c
    → Counts s (now + 1) A (counter_after s Tick c)
counts_tick s now A Full p none k = record { within = tt; below = below_tick s now A s.burst 0 0 none (omega arith) (omega arith) k.below; reached = tt }
counts_tick s now A (Short t g) p none k =
    let room : (t + 1) * s.step ≤ s.burst * s.step = mul-le-mul_right s.step (omega (arith, k.within.0)) in
    let older : Below s (now + 1) A t (g + 1) = below_tick s now A t g (g + 1) none (omega arith) (omega (arith, k.within.1)) k.below in
    let u : ℕ = k.reached.0 in
    let q : ℕ = k.reached.1 in
    cond_both (eqb (g + 1) s.step) (cond (eqb (t + 1) s.burst) Full (Short (t + 1) 0)) (Short t (g + 1)) (Counts s (now + 1) A)
    (λ e. let turn : g + 1 ≡ s.step = eqb-true (g + 1) s.step e in
    let gained : Below s (now + 1) A (t + 1) 0 = λ v le. omega (arith, older v le) in
    cond_both (eqb (t + 1) s.burst) Full (Short (t + 1) 0) (Counts s (now + 1) A)
    (λ f. let all : t + 1 ≡ s.burst = eqb-true (t + 1) s.burst f in
    record { within = tt; below = rw all at gained; reached = tt })
    (λ f. let fewer : t + 1 < s.burst = not_equal_less (t + 1) s.burst (omega (arith, k.within.0)) (eqb-false (t + 1) s.burst f) in
    record { within = (fewer, p); below = gained; reached = (u, q + 1, omega (arith, k.reached.2), omega (arith, k.reached.3)) }))
    (λ e. let younger : g + 1 < s.step = not_equal_less (g + 1) s.step (omega (arith, k.within.1)) (eqb-false (g + 1) s.step e) in
    record { within = (k.within.0, younger); below = older; reached = (u, q, omega (arith, k.reached.2), k.reached.3) })
  where
    not_equal_less : (a b : ℕ) → a ≤ b → (a ≡ b → ⊥) → a < b
    not_equal_less a b h n = elim (cases_lt a b) [ inl l ↦ l | inr l ↦ absurd (n (omega arith)) ]

-- An arrival that takes a token. B counts it too.
pub counts_arrival : (s : StaircaseModel) (now : ℕ) (A B : ℕ → ℕ) (c : Counter) → (1 ≤ s.burst) × (1 ≤ s.step) → 1 ≤ tokens s c
    → ((u : ℕ) → u ≤ now → B u ≡ A u + 1)
    → Counts s now A c → Counts s now B (counter_after s Arrival c)
counts_arrival s now A B Full p h more k =
    let first : A now ≡ 0 = elim (cases_lt 0 (A now)) [
      | inl a ↦ absurd (omega (arith, mul-le-mul_right s.step a, k.below now (omega arith)))
      | inr a ↦ omega arith
    ] in
    record {
      within = (omega arith, p.1);
      below = λ u le. let z : B u + (s.burst - 1) ≡ A u + s.burst = omega (arith, more u le) in rw z (k.below u le);
      reached = (now, 0, omega arith, omega (arith, more now (omega arith)));
    }
counts_arrival s now A B (Short t g) p h more k =
    record {
      within = (omega (arith, k.within.0), k.within.1);
      below = λ u le. let z : B u + (t - 1) ≡ A u + t = omega (arith, more u le) in rw z (k.below u le);
      reached = (k.reached.0, k.reached.1, k.reached.2, omega (arith, more k.reached.0 (omega (arith, k.reached.2)), k.reached.3));
    }

-- every window that ends now has room for one more arrival
abbrev pub HasRoom : StaircaseModel → ℕ → (ℕ → ℕ) → Type 0
HasRoom s now A = (u : ℕ) → u ≤ now → A u + 1 ≤ allowed_in (now - u) s

token_room : (s : StaircaseModel) (now : ℕ) (A : ℕ → ℕ) (t g : ℕ) → 1 ≤ s.step → 1 ≤ t → Below s now A t g → HasRoom s now A
token_room s now A t g p h b u le =
    below_quotient (A u + 1) s.burst (now - u) s.step p
    (omega (arith, b u le, mul-le-mul_right {m = A u + 1} {n = A u + t} s.step (omega arith)))

room_token : (s : StaircaseModel) (now : ℕ) (A : ℕ → ℕ) (c : Counter) → 1 ≤ s.burst → Counts s now A c → HasRoom s now A → 1 ≤ tokens s c
room_token s now A Full p k room = p
room_token s now A (Short t g) p k room =
    let u : ℕ = k.reached.0 in
    let turns : (now - u) / s.step ≡ k.reached.1 = ap (λ x. x / s.step) (omega (arith, k.reached.2)) ∙ digits_div k.reached.1 k.within.1 in
    omega (arith, room u (omega (arith, k.reached.2)), k.reached.3)

-- there is a token exactly when there is room
pub token_exactly : (s : StaircaseModel) (now : ℕ) (A : ℕ → ℕ) (c : Counter) → (1 ≤ s.burst) × (1 ≤ s.step) → Counts s now A c → (1 ≤ tokens s c) ↔ HasRoom s now A
token_exactly s now A c p k = ((λ h. token_room s now A (tokens s c) (age c) p.1 h k.below), room_token s now A c p.0 k)
