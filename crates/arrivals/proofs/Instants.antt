-- Instants and windows: what one more arrival now means for the windows that end now, and for all windows.
use Rattle.std.proofs.Common.{◌≡◌, ℕ, ◌+◌, ◌-◌, ◌<◌, ◌≤◌, cond, ◌&&◌, leb, List, [], ◌∷◌, ◌++◌, refl, inl, inr, arith}
use Rattle.std.proofs.lemmas.Bool.{and_from, and_left, and_right, cases_lt, cond-false, cond-true, le-leb, lt-leb}
use Rattle.std.specs.List.{AllByRecursion}
use Rattle.tasks.specs.Staircase.{StaircaseModel}
use Rattle.arrivals.proofs.OneCounter.{HasRoom}
use Rattle.arrivals.proofs.Quotients.{quotient_rises}
use Rattle.arrivals.specs.Windows.{Keeps, in_window}

-- how many of these instants are u or later
abbrev pub since : ℕ → List ℕ → ℕ
since u [] = 0
since u (x ∷ xs) = cond (leb u x) 1 0 + since u xs

abbrev pub NoneLater : ℕ → List ℕ → Type 0
NoneLater now xs = AllByRecursion (λ x. x ≤ now) xs

pub since_now : (now u : ℕ) (xs : List ℕ) → u ≤ now → since u (xs ++ (now ∷ [])) ≡ since u xs + 1
since_now now u [] h = omega (arith, cond-true {A = ℕ} (leb u now) 1 0 (le-leb u now h))
since_now now u (x ∷ xs) h = omega (arith, since_now now u xs h)

pub none_since : (now : ℕ) (xs : List ℕ) → NoneLater now xs → since (now + 1) xs ≡ 0
none_since now [] e = refl
none_since now (x ∷ xs) e = omega (arith, cond-false {A = ℕ} (leb (now + 1) x) 1 0 (lt-leb (now + 1) x (omega (arith, e.0))), none_since now xs e.1)

pub none_later_tick : (now : ℕ) (xs : List ℕ) → NoneLater now xs → NoneLater (now + 1) xs
none_later_tick now [] e = tt
none_later_tick now (x ∷ xs) e = (omega (arith, e.0), none_later_tick now xs e.1)

pub none_later_arrival : (now : ℕ) (xs : List ℕ) → NoneLater now xs → NoneLater now (xs ++ (now ∷ []))
none_later_arrival now [] e = (omega arith, tt)
none_later_arrival now (x ∷ xs) e = (e.0, none_later_arrival now xs e.1)

-- one instant and one window
inside : (start length x : ℕ) → start ≤ x → x ≤ start + length → ◌≡◌ {A = ℕ} (cond (leb start x && leb x (start + length)) 1 0) 1
inside start length x a b = cond-true {A = ℕ} (leb start x && leb x (start + length)) 1 0 (and_from (leb start x) (leb x (start + length)) (le-leb start x a) (le-leb x (start + length) b))

too_early : (start length x : ℕ) → x < start → ◌≡◌ {A = ℕ} (cond (leb start x && leb x (start + length)) 1 0) 0
too_early start length x a = cond-false {A = ℕ} (leb start x && leb x (start + length)) 1 0 (and_left (leb start x) (leb x (start + length)) (lt-leb start x a))

too_late : (start length x : ℕ) → start + length < x → ◌≡◌ {A = ℕ} (cond (leb start x && leb x (start + length)) 1 0) 0
too_late start length x a = cond-false {A = ℕ} (leb start x && leb x (start + length)) 1 0 (and_right (leb start x) (leb x (start + length)) (lt-leb x (start + length) a))

in_window_append : (start length : ℕ) (xs ys : List ℕ) → in_window start length (xs ++ ys) ≡ in_window start length xs + in_window start length ys
in_window_append start length [] ys = omega arith
in_window_append start length (x ∷ xs) ys = omega (arith, in_window_append start length xs ys)

-- a window that has not ended holds what came at its start or later
open_window : (start length now : ℕ) (xs : List ℕ) → now ≤ start + length → NoneLater now xs → in_window start length xs ≡ since start xs
open_window start length now [] h e = refl
open_window start length now (x ∷ xs) h e =
    let more : in_window start length xs ≡ since start xs = open_window start length now xs h e.1 in
    elim (cases_lt x start) [
      | inl a ↦ omega (arith, too_early start length x a, cond-false {A = ℕ} (leb start x) 1 0 (lt-leb start x a))
      | inr a ↦ omega (arith, inside start length x a (omega (arith, e.0)), cond-true {A = ℕ} (leb start x) 1 0 (le-leb start x a))
    ]

-- a window that has not begun is empty
future_window : (start length now : ℕ) (xs : List ℕ) → now < start → NoneLater now xs → in_window start length xs ≡ 0
future_window start length now [] h e = refl
future_window start length now (x ∷ xs) h e = omega (arith, too_early start length x (omega (arith, e.0)), future_window start length now xs h e.1)

-- where every window that ends now has room, one more arrival keeps every window
pub room_keeps : (s : StaircaseModel) (now : ℕ) (xs : List ℕ) → 1 ≤ s.step → NoneLater now xs → Keeps xs s → HasRoom s now (λ u. since u xs)
    → Keeps (xs ++ (now ∷ [])) s
room_keeps s now xs p e keeps room start length =
    let both : in_window start length (xs ++ (now ∷ [])) ≡ in_window start length xs + in_window start length (now ∷ []) = in_window_append start length xs (now ∷ []) in
    elim (cases_lt (start + length) now) [
      | inl a ↦ omega (arith, too_late start length now a, keeps start length)
      | inr a ↦ elim (cases_lt now start) [
        | inl b ↦ omega (arith, too_early start length now b, future_window start length now xs b e)
        | inr b ↦ omega (arith, inside start length now b a, open_window start length now xs a e, room start b, quotient_rises (now - start) length s.step p (omega arith))
      ]
    ]

pub keeps_room : (s : StaircaseModel) (now : ℕ) (xs : List ℕ) → NoneLater now xs → Keeps (xs ++ (now ∷ [])) s → HasRoom s now (λ u. since u xs)
keeps_room s now xs e keeps u le =
    let length : ℕ = now - u in
    omega (arith, keeps u length, in_window_append u length xs (now ∷ []), inside u length now le (omega arith), open_window u length now xs (omega arith) e)
