-- The order of IEEE 754 on values that are no NaN: reflexive, total and transitive. Assumes nothing.
use Rattle.std.specs.Prelude.{◌≡◌, refl, Bool, true, false, not, ◌&&◌, ◌||◌, ℕ, zero, suc, ◌+◌, ◌*◌, ◌≤◌, ◌<◌, T, ltb, eqb, Float}
use Rattle.std.proofs.Common.{sym, ap, ◌∙◌, subst, inl, inr, arith}
use native.Mathlib.Nat.{eq-or-lt_of_le, mul-pos, zero-mul}
use borrow.Author.Tests.{ltb-true, ltb-false, eqb-true, lt-ltb, le-ltb, eq-eqb}
use Rattle.std.specs.Float.{nan, inf, fin}
use Rattle.std.specs.Float.Ieee.{below, level, lt, eq, le, is_nan, up, down}
use Rattle.std.specs.Float.Ieee.Fits.{down_pos}
use Rattle.std.specs.Float.Ieee.Positive.{through}
use Rattle.pixel.specs.Bounds.{Between}

same : (a : ℕ) (x : Bool) → T (x || (eqb a a && true))
same a true = tt
same a false = rw (eq-eqb a a refl) tt

-- of two magnitudes with signs, if the second is not below the first, the first is below or level
below_total : (s t : Bool) (a b : ℕ) → below t b s a ≡ false → T (below s a t b || level s a t b)
below_total false false a b h = elim (eq-or-lt_of_le (ltb-false b a h)) [
  | inl e ↦ rw e (same b (ltb b b))
  | inr l ↦ rw (lt-ltb a b l) tt
]
below_total true true a b h = elim (eq-or-lt_of_le (ltb-false a b h)) [
  | inl e ↦ rw e (same a (ltb a a))
  | inr l ↦ rw (lt-ltb b a l) tt
]
below_total false true a b h =
    let z : b + a ≤ 0 = ltb-false 0 (b + a) h in
    let x : a ≡ 0 = omega arith in
    let y : b ≡ 0 = omega arith in
    rw (x, y) tt
below_total true false a b h = both (ltb 0 (a + b)) refl
  where
    both : (q : Bool) → ltb 0 (a + b) ≡ q → T (q || level true a false b)
    both true e = tt
    both false e =
        let z : a + b ≤ 0 = ltb-false 0 (a + b) e in
        let x : a ≡ 0 = omega arith in
        let y : b ≡ 0 = omega arith in
        rw (x, y) tt

pub not-above : (x y : Float) → T (not (is_nan x)) → T (not (is_nan y)) → lt y x ≡ false → T (le x y)
unfolding le lt eq is_nan
not-above nan y p q h = absurd p
not-above (inf s) nan p q h = absurd q
not-above (inf true) (inf true) p q h = tt
not-above (inf true) (inf false) p q h = tt
not-above (inf false) (inf false) p q h = tt
not-above (inf true) (fin t n d) p q h = tt
not-above (inf false) (fin t n d) p q h = absurd (subst T h tt)
not-above (inf false) (inf true) p q h = absurd (subst T h tt)
not-above (fin s m e) nan p q h = absurd q
not-above (fin s m e) (inf true) p q h = absurd (subst T h tt)
not-above (fin s m e) (inf false) p q h = tt
not-above (fin s m e) (fin t n d) p q h = below_total s t (m * up e * down d) (n * up d * down e) h

pub lt-le : (x y : Float) → lt x y ≡ true → T (le x y)
unfolding le
lt-le x y h = rw h tt

-- what compares is no NaN
pub lt-right : (x y : Float) → lt x y ≡ true → T (not (is_nan y))
unfolding lt is_nan
lt-right nan nan h = subst T (sym h) tt
lt-right (inf s) nan h = subst T (sym h) tt
lt-right (fin s m e) nan h = subst T (sym h) tt
lt-right x (inf s) h = tt
lt-right x (fin s m e) h = tt

pub le_left : (x y : Float) → T (le x y) → T (not (is_nan x))
unfolding le lt eq is_nan
le_left nan y h = h
le_left (inf s) y h = tt
le_left (fin s m e) y h = tt

pub le_right : (x y : Float) → T (le x y) → T (not (is_nan y))
unfolding le lt eq is_nan
le_right nan nan h = h
le_right (inf s) nan h = h
le_right (fin s m e) nan h = h
le_right x (inf s) h = tt
le_right x (fin s m e) h = tt

irr : (a : ℕ) → ltb a a ≡ false
irr a = search (borrow.Author.Tests.le-ltb, native.Mathlib.Nat.le_refl)

pub lt_irrefl : (x : Float) → lt x x ≡ false
unfolding lt
lt_irrefl nan = refl
lt_irrefl (inf true) = refl
lt_irrefl (inf false) = refl
lt_irrefl (fin true m e) = irr (m * up e * down e)
lt_irrefl (fin false m e) = irr (m * up e * down e)

pub le_refl : (x : Float) → T (not (is_nan x)) → T (le x x)
le_refl x p = not-above x x p p (lt_irrefl x)

-- ---- ±a ≤ ±b, as the order of numbers
abbrev AtMost : Bool → ℕ → Bool → ℕ → Type 0
AtMost false a false b = a ≤ b
AtMost false a true b = (a ≡ 0) × (b ≡ 0)
AtMost true a false b = Unit
AtMost true a true b = b ≤ a

from-test : (a b : ℕ) (x y : Bool) → (x ≡ true → a ≤ b) → (y ≡ true → a ≤ b) → T (x || (y && true)) → a ≤ b
from-test a b true y p q t = p refl
from-test a b false true p q t = q refl
from-test a b false false p q t = absurd t

both_zero : (a b : ℕ) (x y : Bool) → eqb a b ≡ x → eqb a 0 ≡ y → T (x && y) → (a ≡ 0) × (b ≡ 0)
both_zero a b true true p q t = let e : a ≡ b = eqb-true a b p in let z : a ≡ 0 = eqb-true a 0 q in (z, omega arith)
both_zero a b true false p q t = absurd t
both_zero a b false y p q t = absurd t

at_most : (s t : Bool) (a b : ℕ) → T (below s a t b || level s a t b) → AtMost s a t b
at_most false false a b h = from-test a b (ltb a b) (eqb a b) (λ p. omega (arith, ltb-true a b p)) (λ p. omega (arith, eqb-true a b p)) h
at_most false true a b h = both_zero a b (eqb a b) (eqb a 0) refl refl h
at_most true false a b h = tt
at_most true true a b h = from-test b a (ltb b a) (eqb a b) (λ p. omega (arith, ltb-true b a p)) (λ p. omega (arith, eqb-true a b p)) h

not-below : (s t : Bool) (a b : ℕ) → AtMost s a t b → below t b s a ≡ false
not-below false false a b h = le-ltb b a h
not-below false true a b h = le-ltb 0 (b + a) (omega (arith, h.0, h.1))
not-below true false a b h = refl
not-below true true a b h = le-ltb a b h

from-at-most : (s t : Bool) (a b : ℕ) → AtMost s a t b → T (below s a t b || level s a t b)
from-at-most s t a b h = below_total s t a b (not-below s t a b h)

-- what is at most y is not above it
pub le-not-above : (x y : Float) → T (le x y) → lt y x ≡ false
unfolding le lt eq
le-not-above nan y h = absurd h
le-not-above (inf true) nan h = refl
le-not-above (inf true) (inf true) h = refl
le-not-above (inf true) (inf false) h = refl
le-not-above (inf true) (fin t n d) h = refl
le-not-above (inf false) nan h = absurd h
le-not-above (inf false) (inf true) h = absurd h
le-not-above (inf false) (inf false) h = refl
le-not-above (inf false) (fin t n d) h = absurd h
le-not-above (fin s m e) nan h = absurd h
le-not-above (fin s m e) (inf true) h = absurd h
le-not-above (fin s m e) (inf false) h = refl
le-not-above (fin s m e) (fin t n d) h = not-below s t (m * up e * down d) (n * up d * down e) (at_most s t (m * up e * down d) (n * up d * down e) h)

zero_of : (a b : ℕ) → 0 < b → a * b ≤ 0 → a ≡ 0
zero_of zero b B h = refl
zero_of (suc a) b B h = absurd (let l : 0 < suc a * b = mul-pos (omega arith) B in omega arith)

none_of : (a b : ℕ) → a ≡ 0 → a * b ≡ 0
none_of a b e = ap (λ (k : ℕ). k * b) e ∙ zero-mul b

-- three fractions with signs, x / p, y / q and z / r
at-most-through : (s t u : Bool) (x y z p q r : ℕ) → 0 < p → 0 < q → 0 < r → AtMost s (x * q) t (y * p) → AtMost t (y * r) u (z * q) → AtMost s (x * r) u (z * p)
at-most-through false false false x y z p q r P Q R h k = through x y z p q r Q h k
at-most-through false false true x y z p q r P Q R h k =
    let y0 : y ≡ 0 = zero_of y r R (omega (arith, k.0)) in
    let x0 : x ≡ 0 = zero_of x q Q (omega (arith, none_of y p y0)) in
    (none_of x r x0, none_of z p (zero_of z q Q (omega (arith, k.1))))
at-most-through false true false x y z p q r P Q R h k = omega (arith, none_of x r (zero_of x q Q (omega (arith, h.0))))
at-most-through false true true x y z p q r P Q R h k =
    let y0 : y ≡ 0 = zero_of y p P (omega (arith, h.1)) in
    (none_of x r (zero_of x q Q (omega (arith, h.0))), none_of z p (zero_of z q Q (omega (arith, none_of y r y0))))
at-most-through true false false x y z p q r P Q R h k = tt
at-most-through true false true x y z p q r P Q R h k = omega (arith, none_of z p (zero_of z q Q (omega (arith, k.1))))
at-most-through true true false x y z p q r P Q R h k = tt
at-most-through true true true x y z p q r P Q R h k = through z y x r q p Q k h

pub le_trans : (x y z : Float) → T (le x y) → T (le y z) → T (le x z)
unfolding le lt eq is_nan
le_trans nan y z h k = absurd h
le_trans (inf true) y nan h k = absurd (le_right y nan k)
le_trans (inf true) y (inf true) h k = tt
le_trans (inf true) y (inf false) h k = tt
le_trans (inf true) y (fin u l c) h k = tt
le_trans (inf false) nan z h k = absurd h
le_trans (inf false) (inf true) z h k = absurd h
le_trans (inf false) (inf false) z h k = k
le_trans (inf false) (fin t n d) z h k = absurd h
le_trans (fin s m e) nan z h k = absurd h
le_trans (fin s m e) (inf true) z h k = absurd h
le_trans (fin s m e) (inf false) nan h k = absurd k
le_trans (fin s m e) (inf false) (inf true) h k = absurd k
le_trans (fin s m e) (inf false) (inf false) h k = tt
le_trans (fin s m e) (inf false) (fin u l c) h k = absurd k
le_trans (fin s m e) (fin t n d) nan h k = absurd k
le_trans (fin s m e) (fin t n d) (inf true) h k = absurd k
le_trans (fin s m e) (fin t n d) (inf false) h k = tt
le_trans (fin s m e) (fin t n d) (fin u l c) h k =
    from-at-most s u (m * up e * down c) (l * up c * down e)
    (at-most-through s t u (m * up e) (n * up d) (l * up c) (down e) (down d) (down c) (down_pos e) (down_pos d) (down_pos c)
    (at_most s t (m * up e * down d) (n * up d * down e) h)
    (at_most t u (n * up d * down c) (l * up c * down d) k))

-- wider bounds hold too
pub between-wider : (a b lo hi x : Float) → T (le lo a) → T (le b hi) → Between a b x → Between lo hi x
between-wider a b lo hi x l h k = record { low = le_trans lo a x l k.low; high = le_trans x b hi k.high h }
