-- A value less itself is 0 where the value is finite, and a NaN otherwise; and components tested one after the other. Assumes nothing.
use Rattle.std.specs.Prelude.{◌≡◌, Bool, not, cond, ◌&&◌, List, [], ◌∷◌, ℕ, suc, ◌+◌, ◌*◌, ◌^◌, ◌≤◌, ◌<◌, T, length, drop, get_or, Float}
use Rattle.std.proofs.Math.Path.{refl, sym}
use Rattle.std.proofs.Common.{ap, ◌∙◌, subst, mul-pos, le_refl, mul-one, zero-mul, le-ltb, eq-eqb, pow_pos, drop_of_length-le}
use Rattle.std.proofs.Math.Bool.{true, false}
use Rattle.std.proofs.Math.Nat.{sub_self, eq_of_mul-eq-mul_right}
use Rattle.std.proofs.Math.Numerals.{add-one}
use Rattle.std.proofs.Math.Seq.{drop-cons}
use Rattle.std.specs.Float.Ieee.{nan, prec, emax, low, up, down, round, add, sub, sum, neg, eq, of_bits}
use Rattle.std.specs.Float.{inf, fin, binary64}
use Rattle.std.specs.Float.Ieee.Exact.{HasValue, round_exact}
use Rattle.std.specs.Float.Ieee.Fits.{down_pos}
use Rattle.std.specs.Float.Ieee.Scale.{finite}
use Rattle.pixel.specs.F64.{◌⊖◌}
use Rattle.pixel.specs.F64 as F64
use Rattle.pixel_run.specs.Finite.{first_not_finite}

-- ---- a value less itself
-- what has the value 0 equals 0
zero-level : (y : Float) (c : ℕ) → 0 < c → HasValue y false 0 c → eq y F64.zero ≡ true
unfolding eq of_bits
zero-level nan c h v = absurd v
zero-level (inf s) c h v = absurd v
zero-level (fin true n d) c h v = absurd (subst T v.0 tt)
zero-level (fin false n d) c h v =
    let e : n * up d ≡ 0 = eq_of_mul-eq-mul_right c h (n * up d) 0 (v.1 ∙ zero-mul (down d) ∙ sym (zero-mul c)) in
    rw (eq-eqb (n * up d * 1) (0 * 1 * down d) (mul-one (n * up d) ∙ e ∙ sym (zero-mul (down d)))) refl

round-zero : (c : ℕ) → 0 < c → eq (round binary64 false 0 c) F64.zero ≡ true
round-zero c h =
    zero-level (round binary64 false 0 c) c h
    (round_exact binary64 false 0 c 0 0 h (pow_pos (prec binary64)) (pow_pos (low binary64 + suc (emax binary64))) (zero-mul (2 ^ low binary64) ∙ sym (zero-mul c)))

cancels : (s : Bool) (a c : ℕ) → 0 < c → eq (sum binary64 s a (not s) a c) F64.zero ≡ true
unfolding sum
cancels true a c h = rw (le-ltb a a (le_refl a), sub_self a) (round-zero c h)
cancels false a c h = rw (le-ltb a a (le_refl a), sub_self a) (round-zero c h)

pub less-itself : (x : Float) → eq (x ⊖ x) F64.zero ≡ finite x
unfolding sub add neg eq
less-itself nan = refl
less-itself (inf true) = refl
less-itself (inf false) = refl
less-itself (fin s m e) = cancels s (m * up e * down e) (down e * down e) (mul-pos (down_pos e) (down_pos e))

-- ---- components one after the other
-- every component is finite
unfoldable pub all_finite : List Float → Bool
all_finite [] = true
all_finite (x ∷ xs) = finite x && all_finite xs

pub all_first : (xs : List Float) → all_finite xs ≡ true → first_not_finite xs ≡ length xs
unfolding all_finite first_not_finite
all_first [] h = refl
all_first (x ∷ xs) h = go (finite x) h (all_first xs)
  where
    go : (q : Bool) → q && all_finite xs ≡ true → (all_finite xs ≡ true → first_not_finite xs ≡ length xs) → cond q (suc (first_not_finite xs)) 0 ≡ suc (length xs)
    go true e k = ap suc (k e)
    go false e k = absurd (subst T (sym e) tt)

-- a flag that was true at the start, after the components before i
module _ (xs : List Float) (i : ℕ) where
  pub flag-kept : (t u : Bool) → all_finite xs ≡ (t && all_finite (drop i xs)) → i < length xs → finite (get_or xs i nan) ≡ true → u ≡ t → all_finite xs ≡ (u && all_finite (drop (i + 1) xs))
  unfolding all_finite
  flag-kept t u v h e w = v ∙ rw (w, add-one, drop-cons xs i nan h, e) refl

  pub flag-dropped : (t u : Bool) → all_finite xs ≡ (t && all_finite (drop i xs)) → i < length xs → finite (get_or xs i nan) ≡ false → u ≡ false → all_finite xs ≡ (u && all_finite (drop (i + 1) xs))
  unfolding all_finite
  flag-dropped t u v h e w = v ∙ rw (w, drop-cons xs i nan h, e) (go t)
    where
      go : (t : Bool) → t && false ≡ false
      go true = refl
      go false = refl

  pub flag-end : (t : Bool) → all_finite xs ≡ (t && all_finite (drop i xs)) → length xs ≤ i → t ≡ all_finite xs
  unfolding all_finite
  flag-end t v h = sym (v ∙ rw (drop_of_length-le xs h) (go t))
    where
      go : (t : Bool) → t && true ≡ t
      go true = refl
      go false = refl
