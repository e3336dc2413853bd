-- The clauses of the definitions as equations: a proof rewrites with them, and leaves the definitions shut. Assumes nothing.
use Prim.Native.Nat.{ℕ, ◌-◌, ◌≤◌, ◌<◌}
use mathlib.Core.Path.{◌≡◌, refl, sym, ◌∙◌}
use mathlib.Core.List.{List, [], ◌∷◌}
use mathlib.Core.Bool.{Bool, true, false, cond, ◌&&◌, ◌||◌, false≢true}
use lib.Dec.{eqb, leb}
use lib.ListN.{length}
use borrow.Author.Tests.{leb-true, lt-leb, le-leb}
use Rattle.decimal_read.specs.declared.Held.{Held}
use Rattle.std.specs.Prelude.{Some, None}
use Rattle.decimal_read.specs.declared.Exponent.TheVariants.{Up}
use Rattle.decimal_read.specs.Number.{is_digit, is_mark, is_minus, behind_sign, digits_of, behind_digits, fraction_of, behind_fraction, is_empty, append}
use Rattle.decimal_read.specs.Steps.{held_with, held_all, exponent_of, exponent_at}

-- what a call of `is_digit` that answered true tells
and_left : (a b : Bool) → (a && b) ≡ true → a ≡ true
and_left true b h = refl
and_left false b h = h

and_right : (a b : Bool) → (a && b) ≡ true → b ≡ true
and_right true b h = h
and_right false b h = absurd (false≢true h)

pub digit_low : (b : ℕ) (r : Bool) → r ≡ is_digit b → r ≡ true → 48 ≤ b
unfolding is_digit
digit_low b r e h = leb-true 48 b (and_left (leb 48 b) (leb b 57) (sym e ∙ h))

pub digit-high : (b : ℕ) (r : Bool) → r ≡ is_digit b → r ≡ true → b ≤ 57
unfolding is_digit
digit-high b r e h = leb-true b 57 (and_right (leb 48 b) (leb b 57) (sym e ∙ h))

pub is_minus-nil : is_minus [] ≡ false
unfolding is_minus
is_minus-nil = refl

pub is_minus-cons : (b : ℕ) (l : List ℕ) → is_minus (b ∷ l) ≡ eqb b 45
unfolding is_minus
is_minus-cons b l = refl

pub ruleset is_minus-laws = (is_minus-nil, is_minus-cons)

pub behind_sign-nil : behind_sign [] ≡ []
unfolding behind_sign
behind_sign-nil = refl

pub behind_sign-cons : (b : ℕ) (l : List ℕ) → behind_sign (b ∷ l) ≡ cond (eqb b 45 || eqb b 43) l (b ∷ l)
unfolding behind_sign
behind_sign-cons b l = refl

pub ruleset behind_sign-laws = (behind_sign-nil, behind_sign-cons)

pub digits_of-nil : digits_of [] ≡ []
unfolding digits_of
digits_of-nil = refl

pub digits_of-cons : (b : ℕ) (l : List ℕ) → digits_of (b ∷ l) ≡ cond (is_digit b) ((b - 48) ∷ digits_of l) []
unfolding digits_of
digits_of-cons b l = refl

pub behind_digits-nil : behind_digits [] ≡ []
unfolding behind_digits
behind_digits-nil = refl

pub behind_digits-cons : (b : ℕ) (l : List ℕ) → behind_digits (b ∷ l) ≡ cond (is_digit b) (behind_digits l) (b ∷ l)
unfolding behind_digits
behind_digits-cons b l = refl

pub fraction_of-nil : fraction_of [] ≡ []
unfolding fraction_of
fraction_of-nil = refl

pub fraction_of-cons : (b : ℕ) (l : List ℕ) → fraction_of (b ∷ l) ≡ cond (eqb b 46) (digits_of l) []
unfolding fraction_of
fraction_of-cons b l = refl

pub behind_fraction-nil : behind_fraction [] ≡ []
unfolding behind_fraction
behind_fraction-nil = refl

pub behind_fraction-cons : (b : ℕ) (l : List ℕ) → behind_fraction (b ∷ l) ≡ cond (eqb b 46) (behind_digits l) (b ∷ l)
unfolding behind_fraction
behind_fraction-cons b l = refl

pub is_empty-nil : is_empty [] ≡ true
unfolding is_empty
is_empty-nil = refl

pub is_empty-cons : (b : ℕ) (l : List ℕ) → is_empty (b ∷ l) ≡ false
unfolding is_empty
is_empty-cons b l = refl

pub held_all-nil : (h : Held) → held_all h [] ≡ h
unfolding held_all
held_all-nil h = refl

pub held_all-cons : (h : Held) (d : ℕ) (l : List ℕ) → held_all h (d ∷ l) ≡ held_all (held_with h d) l
unfolding held_all
held_all-cons h d l = refl

pub exponent_at-nil : exponent_at [] ≡ Some (Up 0)
unfolding exponent_at
exponent_at-nil = refl

pub exponent_at-cons : (b : ℕ) (l : List ℕ)
    → exponent_at (b ∷ l) ≡ cond (is_mark b) (cond (is_empty (behind_digits (behind_sign l))) (exponent_of (is_minus l) (length (digits_of (behind_sign l))) (append 0 (digits_of (behind_sign l)))) None) None
unfolding exponent_at
exponent_at-cons b l = refl

-- ── An exponent of no digits, and of more than two ──

module _ (m : Bool) (k v : ℕ) where
  pub exponent-none : k < 1 → None ≡ exponent_of m k v
  unfolding exponent_of
  exponent-none h = rw (lt-leb 1 k h)

  pub exponent-long : 1 ≤ k → 2 < k → None ≡ exponent_of m k v
  unfolding exponent_of
  exponent-long p h = rw (le-leb 1 k p, lt-leb k 2 h)
