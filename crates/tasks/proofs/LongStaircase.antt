-- A walk along the staircases that keeps the longest one so far, and what it comes to.
use Rattle.std.proofs.Common.{◌≡◌, ℕ, ◌+◌, zero, suc, ◌-◌, ◌<◌, ◌≤◌, Bool, true, false, cond, List, [], ◌∷◌, map, length, get_or, take, drop, fold, sym, refl, ap, ◌∙◌, inl, inr, arith}
use Rattle.std.proofs.lemmas.List.{at_drop_all, at_drop_more, take_all}
use Rattle.std.proofs.lemmas.Bool.{cases_cond, cond_both}
use Rattle.std.proofs.lemmas.Bool.Decides.{nat_tests}
use Rattle.std.specs.List.{ContainsAt, AllByRecursion}
use Rattle.tasks.specs.LongStaircase.{LongOf}
use Rattle.tasks.specs.Staircase.{StaircaseModel, long_staircase, longer, longest, longest_by, longest_of, no_staircase}

same_either : {A : Type 0} (b : Bool) (x : A) → cond b x x ≡ x
same_either true x = refl
same_either false x = refl

-- A loop that keeps the longest so far, over things of the code that are each seen as something that has a staircase.
module _ {X A : Type 0} (none : A) (staircase : A → StaircaseModel) (view : X → A) where
  pub longest_start : (xs : List X) (x : X) → 0 < length xs → x ≡ get_or xs 0 x → longest_by staircase (view x) (map view xs) ≡ longest_of none staircase (map view xs)
  longest_start [] x h r = absurd (omega arith)
  longest_start (y ∷ ys) x h r =
      ap (λ z. longest_by staircase (view z) (map view (y ∷ ys))) r
      ∙ ap (λ s. longest_by staircase s (map view ys)) (same_either (longer (staircase (view y)) (staircase (view y))) (view y))

  pub longest_more : (xs : List X) (x y z : X) (i : ℕ) (l : A) → i < length xs → x ≡ get_or xs i x → view z ≡ cond (longer (staircase (view x)) (staircase (view y))) (view x) (view y)
      → longest_by staircase (view y) (map view (drop i xs)) ≡ l → longest_by staircase (view z) (map view (drop (i + 1) xs)) ≡ l
  longest_more xs x y z i l h r e inv =
      let here : longest_by staircase (view y) (map view (drop i xs)) ≡ longest_by staircase (view y) (map view (x ∷ drop (i + 1) xs)) =
      at_drop_more (λ ys. longest_by staircase (view y) (map view ys)) xs i x h ∙ ap (λ w. longest_by staircase (view y) (map view (w ∷ drop (i + 1) xs))) (sym r) in
      ap (λ s. longest_by staircase s (map view (drop (i + 1) xs))) e ∙ sym here ∙ inv

  pub longest_all : (xs : List X) (y : X) (i : ℕ) (l : A) → length xs ≤ i → longest_by staircase (view y) (map view (drop i xs)) ≡ l → view y ≡ l
  longest_all xs y i l h inv = sym (at_drop_all (λ ys. longest_by staircase (view y) (map view ys)) xs i h) ∙ inv

-- the staircase is itself the thing that has it
longest_as : (s : StaircaseModel) (ss : List StaircaseModel) → longest s ss ≡ longest_by (λ u. u) s ss
longest_as s [] = refl
longest_as s (t ∷ ts) = longest_as (cond (longer t s) t s) ts

pub long_staircase_as : (ss : List StaircaseModel) → long_staircase ss ≡ longest_of no_staircase (λ u. u) ss
long_staircase_as [] = refl
long_staircase_as (s ∷ ss) = longest_as s ss

-- x is no longer than s, so it is no longer than what is longer than s
no_longer : (x t s : StaircaseModel) → longer x s ≡ false → longer t s ≡ true → longer x t ≡ false
no_longer x t s h k = grind (arith, nat_tests)

not_itself : (s : StaircaseModel) → longer s s ≡ false
not_itself s = grind (arith, nat_tests)

still_no_longer : (x s : StaircaseModel) (ss : List StaircaseModel) → longer x s ≡ false → longer x (longest s ss) ≡ false
still_no_longer x s [] h = h
still_no_longer x s (t ∷ ts) h =
    still_no_longer x (cond (longer t s) t s) ts (cond_both (longer t s) t s (λ u. longer x u ≡ false) (no_longer x t s h) (λ _. h))

longest_most : (s : StaircaseModel) (ss : List StaircaseModel) → AllByRecursion (λ t. longer t (longest s ss) ≡ false) ss
longest_most s [] = tt
longest_most s (u ∷ us) = (
  still_no_longer u (cond (longer u s) u s) us (cond_both (longer u s) u s (λ x. longer u x ≡ false) (λ _. not_itself u) (λ h. h)),
  longest_most (cond (longer u s) u s) us,
)

longest_own : (s : StaircaseModel) (ss : List StaircaseModel) → ContainsAt (s ∷ ss) (longest s ss)
longest_own s [] = (0, omega arith, λ d. refl)
longest_own s (t ∷ ts) = placed (longest_own (cond (longer t s) t s) ts)
  where
    placed : ContainsAt (cond (longer t s) t s ∷ ts) (longest (cond (longer t s) t s) ts) → ContainsAt (s ∷ t ∷ ts) (longest (cond (longer t s) t s) ts)
    placed (zero, h, e) =
        elim (cases_cond (longer t s) t s (cond (longer t s) t s) refl) [
          | inl a ↦ (1, omega arith, λ d. sym a ∙ e d)
          | inr b ↦ (0, omega arith, λ d. sym b ∙ e d)
        ]
    placed (suc k, h, e) = (suc (suc k), omega arith, e)

-- the long staircase of a task that has one
pub long_of : (ss : List StaircaseModel) → 0 < length ss → LongOf ss (long_staircase ss)
long_of [] h = absurd (omega arith)
long_of (s ∷ ss) h = record { own = longest_own s ss; most = (still_no_longer s s ss (not_itself s), longest_most s ss) }

-- what a fold comes to that keeps the longer one
pub folded_longest : {A : Type 0} (staircase : A → StaircaseModel) (x : A) (xs : List A) → fold (λ l y. cond (longer (staircase y) (staircase l)) y l) x xs ≡ longest_by staircase x xs
folded_longest staircase x [] = refl
folded_longest staircase x (y ∷ ys) = folded_longest staircase (cond (longer (staircase y) (staircase x)) y x) ys

-- the longest through a view
pub longest_map : {X A : Type 0} (staircase : A → StaircaseModel) (view : X → A) (x : X) (xs : List X) → longest_by staircase (view x) (map view xs) ≡ view (longest_by (λ y. staircase (view y)) x xs)
longest_map staircase view x [] = refl
longest_map {X = X} staircase view x (y ∷ ys) =
    ap (λ u. longest_by staircase u (map view ys)) (kept (longer (staircase (view y)) (staircase (view x))) y x)
    ∙ longest_map staircase view (cond (longer (staircase (view y)) (staircase (view x))) y x) ys
  where
    kept : (b : Bool) (y x : X) → cond b (view y) (view x) ≡ view (cond b y x)
    kept true y x = refl
    kept false y x = refl

-- the longest of the first element and those behind it, seen through a view
pub longest_found : {X A : Type 0} (none : A) (staircase : A → StaircaseModel) (view : X → A) (xs : List X) (x r : X) → 1 ≤ length xs → x ≡ get_or xs 0 x
    → r ≡ longest_by (λ y. staircase (view y)) x (take (length xs - 1) (drop 1 xs)) → view r ≡ longest_of none staircase (map view xs)
longest_found none staircase view [] x r h e found = absurd (omega arith)
longest_found none staircase view (y ∷ ys) x r h e found =
    ap view (found ∙ ap (longest_by (λ z. staircase (view z)) x) (take_all (length (y ∷ ys) - 1) ys (omega arith))) ∙ sym (longest_map staircase view x ys) ∙ ap (λ z. longest_by staircase (view z) (map view ys)) e
