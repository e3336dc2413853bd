-- The index on an axis, of a LUT1D or a LUT3D: the whole part of p is the largest index that is at most p; and p, a fraction held in 0..1 times n - 1, is at most n - 1. Assumes nothing.
use Rattle.std.specs.Prelude.{◌≡◌, ℕ, zero, suc, ◌+◌, ◌-◌, ◌*◌, ◌/◌, ◌^◌, ◌<◌, ◌≤◌, min, Bool, true, false, cond, not, ◌&&◌, ◌||◌, T, ℤ, pos, ◌==◌, nat_le, nat_lt, refl, Float}
use Rattle.std.proofs.Common.{sym, ap, ◌∙◌, subst, inl, inr, true≢false, arith, ltb-false, leb-true, leb-false, lt-ltb, le-ltb, le-leb, eq-eqb, ne_eqb}
use native.Mathlib.Nat.{eq-or-lt_of_le, le-div_iff_mul-le, le_of_mul-le-mul_right, mul-le-mul_right, mul_left_comm, mul_right_comm, mul-one, div-one, le_trans, le_of_eq, mul-pos, zero-mul}
use Rattle.std.proofs.lemmas.Bool.{lt-leb}
use lib.Dec.{lit<, lit≤, lt→ltb}
use Rattle.std.specs.Float.{nan, inf, fin, binary64}
use Rattle.std.specs.Float.Ieee.{prec, emax, low, up, down, odd, units, round, lt, le, eq, neg, sum, add, sub, mul, of_int, of_bits, to_unsigned}
use Rattle.std.specs.Float.Ieee.Fits.{down_pos, round_is}
use Rattle.std.specs.Float.Ieee.Exact.{HasValue, odd_sign}
use Rattle.std.specs.Float.Ieee.Back.{round_whole}
use Rattle.std.specs.Float.Ieee.Nearest.{div_mono}
use Rattle.std.specs.Float.Ieee.Scale.{round_same}
use Rattle.std.specs.Float.Ieee.Order.{round_mono, kept, drop}
use Rattle.pixel.specs.declared.Fraction.{Fraction}
use Rattle.pixel.specs.F64.{◌⊖◌, one, whole}
use Rattle.pixel.specs.F64 as F64
use Rattle.pixel.specs.Hold.{hold}
use Rattle.pixel_lut.specs.Lut1d.{floor_to, position}

-- finite, with no minus sign
abbrev pub plain_float : Float → Bool
plain_float nan = false
plain_float (inf s) = false
plain_float (fin s m e) = not s

-- ---- numbers
leb-same : (a b c d : ℕ) → (a ≤ b → c ≤ d) → (c ≤ d → a ≤ b) → nat_le a b ≡ nat_le c d
leb-same a b c d f g = go (nat_le a b) refl
  where
    go : (x : Bool) → nat_le a b ≡ x → x ≡ nat_le c d
    go true e = sym (le-leb c d (f (leb-true a b e)))
    go false e = sym (lt-leb c d (native.Mathlib.Nat.lt_of_not-le (λ h. native.Mathlib.Nat.not-le_of_lt (leb-false a b e) (g h))))

or-leb : (a b : ℕ) → (nat_lt a b || (a == b && true)) ≡ nat_le a b
or-leb a b = go (nat_le a b) refl
  where
    go : (x : Bool) → nat_le a b ≡ x → (nat_lt a b || (a == b && true)) ≡ x
    go true e = elim (eq-or-lt_of_le (leb-true a b e)) [
      | inl p ↦ rw (p, le-ltb b b (omega arith), eq-eqb b b refl)
      | inr l ↦ rw (lt-ltb a b l)
    ]
    go false e =
        let l : b < a = leb-false a b e in
        rw (le-ltb a b (omega arith), ne_eqb a b (λ q. omega arith))

-- ---- a whole number and a value that is not negative
whole-value : (k : ℕ) → k ≤ 2 ^ 53 → HasValue (whole k) false k 1
unfolding of_int
whole-value k h = round_whole binary64 false k h

crossed : (n k m ue de ud dd : ℕ) → 0 < dd → n * ud * 1 ≡ k * dd → n * ud * de ≤ m * ue * dd → k * de ≤ m * ue
crossed n k m ue de ud dd D v h =
    let x : n * ud ≡ k * dd = sym (mul-one (n * ud)) ∙ v in
    le_of_mul-le-mul_right (le_trans (le_of_eq (mul_right_comm k de dd ∙ ap (λ (z : ℕ). z * de) (sym x))) h) D

uncrossed : (n k m ue de ud dd : ℕ) → n * ud * 1 ≡ k * dd → k * de ≤ m * ue → n * ud * de ≤ m * ue * dd
uncrossed n k m ue de ud dd v h =
    let x : n * ud ≡ k * dd = sym (mul-one (n * ud)) ∙ v in
    le_trans (le_of_eq (ap (λ (z : ℕ). z * de) x ∙ mul_right_comm k dd de)) (mul-le-mul_right dd h)

at_most : (y : Float) (k m : ℕ) (e : ℤ) → HasValue y false k 1 → le y (fin false m e) ≡ nat_le k (m * up e / down e)
unfolding le lt eq
at_most nan k m e v = absurd v
at_most (inf s) k m e v = absurd v
at_most (fin true n d) k m e v = absurd (true≢false v.0)
at_most (fin false n d) k m e v =
    or-leb (n * up d * down e) (m * up e * down d)
    ∙ leb-same (n * up d * down e) (m * up e * down d) k (m * up e / down e)
    (λ h. (le-div_iff_mul-le (down_pos e)).1 (crossed n k m (up e) (down e) (up d) (down d) (down_pos d) v.1 h))
    (λ h. uncrossed n k m (up e) (down e) (up d) (down d) v.1 ((le-div_iff_mul-le (down_pos e)).0 h))

floor-min : (k m : ℕ) (e : ℤ) → k ≤ 2 ^ 53 → floor_to k (fin false m e) ≡ min (m * up e / down e) k
unfolding floor_to
floor-min zero m e h = omega arith
floor-min (suc k) m e h =
    ap (λ (b : Bool). cond b (suc k) (floor_to k (fin false m e))) (at_most (whole (suc k)) (suc k) m e (whole-value (suc k) h))
    ∙ ap (λ (r : ℕ). cond (nat_le (suc k) q) (suc k) r) (floor-min k m e (omega arith))
    ∙ go (nat_le (suc k) q) refl
  where
    q : ℕ
    q = m * up e / down e

    go : (b : Bool) → nat_le (suc k) (m * up e / down e) ≡ b → cond b (suc k) (min (m * up e / down e) k) ≡ min (m * up e / down e) (suc k)
    go true t = omega (arith, leb-true (suc k) (m * up e / down e) t)
    go false t = omega (arith, leb-false (suc k) (m * up e / down e) t)

-- what `le p (whole k)` says of p's size
below-whole : (y : Float) (k m : ℕ) (e : ℤ) → HasValue y false k 1 → T (le (fin false m e) y) → m * up e ≤ k * down e
unfolding le lt eq
below-whole nan k m e v t = absurd v
below-whole (inf s) k m e v t = absurd v
below-whole (fin true n d) k m e v t = absurd (true≢false v.0)
below-whole (fin false n d) k m e v t =
    let h : m * up e * down d ≤ n * up d * down e = lib.Dec.leb→le (m * up e * down d) (n * up d * down e) (subst T (or-leb (m * up e * down d) (n * up d * down e)) t) in
    let x : n * up d ≡ k * down d = sym (mul-one (n * up d)) ∙ v.1 in
    le_of_mul-le-mul_right (le_trans h (le_of_eq (ap (λ (z : ℕ). z * down e) x ∙ mul_right_comm k (down d) (down e)))) (down_pos d)

pub floor-is : (p : Float) (k : ℕ) → k < 65536 → T (plain_float p) → T (le p (whole k)) → to_unsigned 64 p ≡ floor_to k p
unfolding to_unsigned
floor-is nan k h q t = absurd q
floor-is (inf s) k h q t = absurd q
floor-is (fin true m e) k h q t = absurd q
floor-is (fin false m e) k h q t =
    let b : m * up e ≤ k * down e = below-whole (whole k) k m e (whole-value k (omega arith)) t in
    let c : m * up e / down e ≤ k / 1 = div_mono (m * up e) (down e) k 1 (down_pos e) (lit< tt) (le_trans (le_of_eq (mul-one (m * up e))) b) in
    let d : k / 1 ≡ k = div-one k in
    omega (arith, floor-min k m e (omega arith), c, d)

pub above_minus_one : (p : Float) → T (plain_float p) → T (lt (fin true 1 (pos 0)) p)
unfolding lt
above_minus_one nan q = absurd q
above_minus_one (inf s) q = absurd q
above_minus_one (fin true m e) q = absurd q
above_minus_one (fin false m e) q = lt→ltb 0 (1 * down e + m * up e * 1) (omega (arith, down_pos e))

pub below-limit : (p : Float) (k : ℕ) → k < 65536 → T (plain_float p) → T (le p (whole k)) → T (lt p (fin false 1 (pos 64)))
unfolding lt
below-limit nan k h q t = absurd q
below-limit (inf s) k h q t = absurd q
below-limit (fin true m e) k h q t = absurd q
below-limit (fin false m e) k h q t =
    let b : m * up e ≤ k * down e = below-whole (whole k) k m e (whole-value k (omega arith)) t in
    let c : k * down e ≤ 65536 * down e = mul-le-mul_right (down e) (omega arith) in
    lt→ltb (m * up e * 1) (18446744073709551616 * down e) (omega (arith, down_pos e))

-- ---- the place p
abbrev InUnit : Float → Type 0
InUnit nan = ⊥
InUnit (inf s) = ⊥
InUnit (fin s m e) = (s ≡ false) × (m * up e ≤ down e)

one_in : InUnit one
unfolding of_bits
one_in = (refl, lit≤ tt)

zero_in : InUnit F64.zero
unfolding of_bits
zero_in = (refl, lit≤ tt)

held_in : (x : Float) → lt one x ≡ false → lt F64.zero x ≡ true → InUnit x
unfolding lt of_bits
held_in nan a b = absurd (subst T (sym b) tt)
held_in (inf true) a b = absurd (subst T (sym b) tt)
held_in (inf false) a b = absurd (subst T a tt)
held_in (fin true m e) a b = absurd (subst T (sym b) tt)
held_in (fin false m e) a b = (refl, omega (arith, ltb-false (1 * down e) (m * up e * 1) a))

hold-in : (x : Float) → InUnit (hold x F64.zero one)
unfolding hold
hold-in x = go (lt one x) (lt F64.zero x) refl refl
  where
    go : (p q : Bool) → lt one x ≡ p → lt F64.zero x ≡ q → InUnit (cond p one (cond q x F64.zero))
    go true q a b = one_in
    go false true a b = held_in x a b
    go false false a b = zero_in

plain_of : (x : Float) (a c : ℕ) → HasValue x false a c → T (plain_float x)
plain_of nan a c v = absurd v
plain_of (inf s) a c v = absurd v
plain_of (fin true m e) a c v = absurd (true≢false v.0)
plain_of (fin false m e) a c v = tt

inf-over : (y : Float) (k : ℕ) → HasValue y false k 1 → T (le (inf false) y) → ⊥
unfolding le lt eq
inf-over nan k v t = v
inf-over (inf s) k v t = v
inf-over (fin s m e) k v t = t

units-plain : (y : Float) (j q k : ℕ) → HasValue y false j 1 → T (le (units binary64 false q k) y) → T (plain_float (units binary64 false q k))
unfolding units
units-plain y j q k v = go (nat_lt (q * 2 ^ k) (2 ^ (low binary64 + suc (emax binary64))))
  where
    go : (b : Bool) → T (le (cond b (odd (suc (prec binary64)) false q k (low binary64)) (inf false)) y) → T (plain_float (cond b (odd (suc (prec binary64)) false q k (low binary64)) (inf false)))
    go true t = plain_of (odd (suc (prec binary64)) false q k (low binary64)) (q * 2 ^ k) (2 ^ low binary64) (odd_sign (suc (prec binary64)) false q k (low binary64))
    go false t = absurd (inf-over y j v t)

scaled : (m ue de nud k dd : ℕ) → m * ue ≤ de → nud * 1 ≡ k * dd → m * ue * nud * 1 ≤ k * (de * dd)
scaled m ue de nud k dd h v =
    let x : nud ≡ k * dd = sym (mul-one nud) ∙ v in
    le_trans (le_of_eq (mul-one (m * ue * nud))) (le_trans (mul-le-mul_right nud h) (le_of_eq (ap (λ (z : ℕ). de * z) x ∙ mul_left_comm de k dd)))

mul-under : (h w : Float) (k : ℕ) → InUnit h → HasValue w false k 1 → HasValue (round binary64 false k 1) false k 1
    → T (plain_float (mul binary64 h w)) × T (le (mul binary64 h w) (round binary64 false k 1))
unfolding mul
mul-under nan w k u v z = absurd u
mul-under (inf s) w k u v z = absurd u
mul-under (fin true m e) w k u v z = absurd (true≢false u.0)
mul-under (fin false m e) nan k u v z = absurd v
mul-under (fin false m e) (inf t) k u v z = absurd v
mul-under (fin false m e) (fin true n d) k u v z = absurd (true≢false v.0)
mul-under (fin false m e) (fin false n d) k u v z =
    let a = m * up e * (n * up d) in
    let c = down e * down d in
    let l : T (le (round binary64 false a c) (round binary64 false k 1)) =
    round_mono binary64 a c k 1 (mul-pos (down_pos e) (down_pos d)) (lit< tt) (scaled m (up e) (down e) (n * up d) k (down d) u.1 v.1) in
    (round-plain a c (round binary64 false k 1) k z l, l)
  where
    round-plain : (a c : ℕ) (y : Float) (j : ℕ) → HasValue y false j 1 → T (le (round binary64 false a c) y) → T (plain_float (round binary64 false a c))
    round-plain a c y j v t =
        subst (λ (x : Float). T (plain_float x)) (sym (round_is binary64 false a c))
        (units-plain y j (kept 53 (a * 2 ^ low binary64) c) (drop 53 (a * 2 ^ low binary64) c) v (subst (λ (x : Float). T (le x y)) (round_is binary64 false a c) t))

pub position_in : (n : ℕ) (x : Fraction) → n ≤ 65536 → T (plain_float (position n x)) × T (le (position n x) (whole (n - 1)))
unfolding position of_int
position_in n x h =
    let v : HasValue (whole (n - 1)) false (n - 1) 1 = whole-value (n - 1) (omega arith) in
    mul-under (hold x.0 F64.zero one) (whole (n - 1)) (n - 1) (hold-in x.0) v v

pub floor-le : (k : ℕ) (p : Float) → floor_to k p ≤ k
unfolding floor_to
floor-le zero p = omega arith
floor-le (suc k) p = go (le (whole (suc k)) p) (floor-le k p)
  where
    go : (b : Bool) → floor_to k p ≤ k → cond b (suc k) (floor_to k p) ≤ suc k
    go true h = omega arith
    go false h = omega arith

-- ---- the index is at most p, and no larger index up to k is
zero_at_most : (p : Float) → T (plain_float p) → T (le (whole 0) p)
zero_at_most nan q = absurd q
zero_at_most (inf s) q = absurd q
zero_at_most (fin true m e) q = absurd q
zero_at_most (fin false m e) q = subst T (sym (at_most (whole 0) 0 m e (whole-value 0 (omega arith)) ∙ le-leb 0 (m * up e / down e) (omega arith))) tt

pub floor-at-most : (k : ℕ) (p : Float) → T (plain_float p) → T (le (whole (floor_to k p)) p)
unfolding floor_to
floor-at-most zero p q = zero_at_most p q
floor-at-most (suc k) p q = go (le (whole (suc k)) p) refl (floor-at-most k p q)
  where
    go : (b : Bool) → le (whole (suc k)) p ≡ b → T (le (whole (floor_to k p)) p) → T (le (whole (cond b (suc k) (floor_to k p))) p)
    go true e h = subst T (sym e) tt
    go false e h = h

pub floor-largest : (k j : ℕ) (p : Float) → j ≤ k → T (le (whole j) p) → j ≤ floor_to k p
unfolding floor_to
floor-largest zero j p h t = h
floor-largest (suc k) j p h t = go (le (whole (suc k)) p) refl (λ l. floor-largest k j p l t)
  where
    go : (b : Bool) → le (whole (suc k)) p ≡ b → (j ≤ k → j ≤ floor_to k p) → j ≤ cond b (suc k) (floor_to k p)
    go true e f = h
    go false e f = elim (eq-or-lt_of_le h) [
      | inl s ↦ absurd (subst T (ap (λ (i : ℕ). le (whole i) p) s ∙ e) t)
      | inr l ↦ f (omega arith)
    ]

-- ---- of two values that are at most each other nothing remains
zero-round : (c : ℕ) → 0 < c → eq (round binary64 false 0 c) F64.zero ≡ true
unfolding eq of_bits round
zero-round c C = rw (round_same binary64 false 0 c 0 1 C (lit< tt) (zero-mul 1 ∙ sym (zero-mul c)))

pub none-remains : (x y : Float) → T (plain_float x) → T (plain_float y) → T (le x y) → T (le y x) → eq (x ⊖ y) F64.zero ≡ true
unfolding le lt eq sub neg add sum
none-remains nan y p q h k = absurd p
none-remains (inf s) y p q h k = absurd p
none-remains (fin true m e) y p q h k = absurd p
none-remains (fin false m e) nan p q h k = absurd q
none-remains (fin false m e) (inf s) p q h k = absurd q
none-remains (fin false m e) (fin true n d) p q h k = absurd q
none-remains (fin false m e) (fin false n d) p q h k = go (m * up e * down d) (n * up d * down e) (down e * down d) (mul-pos (down_pos e) (down_pos d)) h k
  where
    go : (a b c : ℕ) → 0 < c → T (nat_lt a b || (a == b && true)) → T (nat_lt b a || (b == a && true)) → eq (sum binary64 false a true b c) F64.zero ≡ true
    go a b c C h k =
        let ab : a ≤ b = lib.Dec.leb→le a b (subst T (or-leb a b) h) in
        let ba : b ≤ a = lib.Dec.leb→le b a (subst T (or-leb b a) k) in
        let none : a - b ≡ 0 = omega arith in
        rw (le-ltb a b ba, none) (zero-round c C)

pub whole_plain : (k : ℕ) → k < 65536 → T (plain_float (whole k))
whole_plain k h = plain_of (whole k) k 1 (whole-value k (omega arith))
