-- The `dim` of a LUT3D's Array, as the code goes through it. Assumes nothing.
use mathlib.Core.Path.{◌≡◌, refl, sym, ap, ◌∙◌}
use mathlib.Core.Bool.{Bool, true, false, cond, ◌&&◌}
use mathlib.Core.List.{List, [], ◌∷◌, ◌++◌}
use mathlib.Core.Option.{Option, none, some}
use Prim.Native.Nat.{ℕ, zero, suc, ◌+◌, ◌/◌, ◌%◌, ◌≤◌, ◌<◌}
use native.Mathlib.Omega.{arith}
use lib.Dec.{leb}
use borrow.Author.Tests.{le-leb, lt-leb, lt-ltb, le-ltb}
use Rattle.process_list.specs.declared.Interpolation.{Interpolation}
use Rattle.process_list.specs.declared.Kind.{Kind}
use Rattle.process_list.specs.declared.Kind.TheVariants.{Lut3d}
use Rattle.decimal_write.specs.Written.{digits_within, digits}
use Rattle.xml.specs.Bytes.{bytes, same}
use Rattle.clf.specs.Nodes.{whole_from, cube_dim, cube_shape}
use Rattle.tags.specs.Code.{DigitsOf, PointsOf}
use Rattle.tags.specs.declared.Digits.{Digits}
use Rattle.std.specs.Prelude.{Some, None}

-- ---- the text "n n n 3" of a number of one digit, and of two

one-digit : (f n : ℕ) → n < 10 → digits_within f n ≡ (48 + n) ∷ []
unfolding digits_within
one-digit zero n h = refl
one-digit (suc f) n h = rw (lt-ltb n 10 h)

two_digits : (f n : ℕ) → 10 ≤ n → n < 100 → digits_within (suc f) n ≡ (48 + n / 10) ∷ (48 + n % 10) ∷ []
unfolding digits_within
two_digits f n h k = rw (le-ltb n 10 h, one-digit f (n / 10) (omega arith))

digits-two : (n : ℕ) → 10 ≤ n → n < 100 → digits n ≡ (48 + n / 10) ∷ (48 + n % 10) ∷ []
unfolding digits
digits-two zero h k = absurd (omega arith)
digits-two (suc n) h k = two_digits n (suc n) h k

digits-one : (n : ℕ) → n < 10 → digits n ≡ (48 + n % 10) ∷ []
unfolding digits
digits-one n h = one-digit n n h ∙ ap (λ (k : ℕ). (48 + k) ∷ []) (omega arith)

abbrev dim_of : List ℕ → List ℕ
dim_of d = d ++ bytes " " ++ d ++ bytes " " ++ d ++ bytes " 3"

dim-of : (n : ℕ) → cube_dim n ≡ dim_of (digits n)
unfolding cube_dim
dim-of n = refl

pub dim-short : (n : ℕ) → n < 10 → cube_dim n ≡ dim_of ((48 + n % 10) ∷ [])
dim-short n h = dim-of n ∙ ap dim_of (digits-one n h)

pub dim-long : (n : ℕ) → 10 ≤ n → n ≤ 33 → cube_dim n ≡ dim_of ((48 + n / 10) ∷ (48 + n % 10) ∷ [])
dim-long n h k = dim-of n ∙ ap dim_of (digits-two n h (omega arith))

-- ---- the shape that it says

-- the shape by the number that the text begins with
abbrev shape_by : Interpolation → List ℕ → ℕ → Option Kind
shape_by i t n = cond (leb 2 n && (leb n 33 && same t (cube_dim n))) (some (Lut3d n i)) none

shape-by : (i : Interpolation) (t : List ℕ) → cube_shape i t ≡ shape_by i t (whole_from 0 t)
unfolding cube_shape
shape-by i t = refl

never : (a : Bool) → a && false ≡ false
never true = refl
never false = refl

module _ (t : List ℕ) (r : Digits) (d : DigitsOf t r) where
  pub points-few : r.value < 2 → PointsOf t None
  points-few h i = sym (shape-by i t ∙ rw (lt-leb 2 (whole_from 0 t) (omega (arith, d.value))))

  pub points-many : 33 < r.value → PointsOf t None
  points-many h i = sym (shape-by i t ∙ rw (lt-leb (whole_from 0 t) 33 (omega (arith, d.value)), never (leb 2 (whole_from 0 t))))

  counted : r.value ≤ 33 → whole_from 0 t ≡ r.value
  counted h = omega (arith, d.value)

  module _ (least : 2 ≤ r.value) (most : r.value ≤ 33) (v : Bool) (e : v ≡ same t (cube_dim r.value)) where
    by-dim : (i : Interpolation) → cube_shape i t ≡ cond v (some (Lut3d r.value i)) none
    by-dim i = shape-by i t ∙ ap (shape_by i t) (counted most) ∙ rw (le-leb 2 r.value least, le-leb r.value 33 most, ← e)

    pub points-is : v ≡ true → PointsOf t (Some r.value)
    points-is h i = sym (by-dim i ∙ ap (λ (x : Bool). cond x (some (Lut3d r.value i)) none) h)

    pub points_none : v ≡ false → PointsOf t None
    points_none h i = sym (by-dim i ∙ ap (λ (x : Bool). cond x (some (Lut3d r.value i)) none) h)
