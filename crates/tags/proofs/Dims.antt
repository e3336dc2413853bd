-- The `dim` of a LUT1D's Array, as the code goes through it. Assumes nothing.
use mathlib.Core.Path.{◌≡◌, refl, sym, ap, ◌∙◌}
use mathlib.Core.Bool.{Bool, true, false, cond, not, ◌&&◌}
use mathlib.Core.List.{List, [], ◌∷◌}
use mathlib.Core.Option.{Option, none, some}
use Prim.Native.Nat.{ℕ, ◌+◌, ◌-◌, ◌*◌, ◌≤◌, ◌<◌, min}
use native.Mathlib.Omega.{arith}
use lib.ListN.{length, get_or, take, drop, length-drop}
use lib.Seq.{take_all}
use lib.Dec.{leb, ltb}
use borrow.Author.Tests.{leb-true, leb-false, le-leb, lt-leb, lt-ltb}
use Rattle.scanning.specs.Steps.{here, past}
use Rattle.process_list.specs.declared.Kind.{Kind}
use Rattle.process_list.specs.declared.Kind.TheVariants.{Lut1d}
use Rattle.xml.specs.Bytes.{is_digit}
use Rattle.clf.specs.Nodes.{whole_from, behind_digits, begins_with_zero, lut_columns, lut_shape}
use Rattle.tags.specs.Code.{DigitsOf}
use Rattle.tags.specs.declared.Digits.{Digits}

-- ---- a number, counted no further than 65,537

abbrev cap : ℕ → ℕ
cap n = min n 65537

-- two numbers that are counted alike are counted alike with the same digits behind them
whole-cap : (t : List ℕ) (m n : ℕ) → cap m ≡ cap n → cap (whole_from m t) ≡ cap (whole_from n t)
whole-cap [] m n h = h
whole-cap (b ∷ t) m n h = go (whole-cap t (m * 10 + (b - 48)) (n * 10 + (b - 48)) (omega arith)) (is_digit b)
  where
    go : cap (whole_from (m * 10 + (b - 48)) t) ≡ cap (whole_from (n * 10 + (b - 48)) t) → (v : Bool)
        → cap (cond v (whole_from (m * 10 + (b - 48)) t) m) ≡ cap (cond v (whole_from (n * 10 + (b - 48)) t) n)
    go ih true = ih
    go ih false = h

-- the number of the digits up to i is n
pub record DigitsInv (t : List ℕ) (n i : ℕ) : Type 0 where
  pub small : n ≤ 65537
  pub within : i ≤ length t
  pub whole : cap (whole_from 0 t) ≡ cap (whole_from n (drop i t))
  pub rest : behind_digits t ≡ behind_digits (drop i t)

pub digits-start : (t : List ℕ) → DigitsInv t 0 0
digits-start t = record { small = omega arith; within = omega arith; whole = refl; rest = refl }

module _ (t : List ℕ) (n i : ℕ) (v : DigitsInv t n i) where
  pub digits_more : (m : ℕ) → i < length t → is_digit (get_or t i 0) ≡ true → m ≡ min (n * 10 + (get_or t i 0 - 48)) 65537 → DigitsInv t m (i + 1)
  digits_more m h q e =
      let b : ℕ = get_or t i 0 in
      let l : List ℕ = drop (i + 1) t in
      record {
        small = omega arith;
        within = omega arith;
        whole = v.whole ∙ ap (λ (x : List ℕ). cap (whole_from n x)) (here t i h) ∙ ap (λ (d : Bool). cap (cond d (whole_from (n * 10 + (b - 48)) l) n)) q
            ∙ whole-cap l (n * 10 + (b - 48)) m (omega arith);
        rest = v.rest ∙ ap behind_digits (here t i h) ∙ ap (λ (d : Bool). cond d (behind_digits l) (b ∷ l)) q;
      }

  pub digits-stop : i < length t → is_digit (get_or t i 0) ≡ false → DigitsOf t (record { value = n; end = i })
  digits-stop h q =
      let b : ℕ = get_or t i 0 in
      let l : List ℕ = drop (i + 1) t in
      let w : cap (whole_from 0 t) ≡ cap n =
      v.whole ∙ ap (λ (x : List ℕ). cap (whole_from n x)) (here t i h) ∙ ap (λ (d : Bool). cap (cond d (whole_from (n * 10 + (b - 48)) l) n)) q in
      record {
        value = omega (arith, v.small);
        within = v.within;
        rest = sym (v.rest ∙ ap behind_digits (here t i h) ∙ ap (λ (d : Bool). cond d (behind_digits l) (b ∷ l)) q ∙ sym (here t i h));
      }

  pub digits-end : length t ≤ i → DigitsOf t (record { value = n; end = length t })
  digits-end h =
      let w : cap (whole_from 0 t) ≡ cap n = v.whole ∙ ap (λ (x : List ℕ). cap (whole_from n x)) (past t i h) in
      record {
        value = omega (arith, v.small);
        within = omega arith;
        rest = sym (v.rest ∙ ap behind_digits (past t i h) ∙ sym (past t (length t) (omega arith)));
      }

-- ---- the shape that it says

never₁ : (a : Bool) → a && false ≡ false
never₁ true = refl
never₁ false = refl

never₃ : (a b c : Bool) → a && (b && (c && false)) ≡ false
never₃ true true c = never₁ c
never₃ true false c = refl
never₃ false b c = refl

-- the shape by what the code counted
abbrev pub shape_by : Bool → ℕ → ℕ → Option Kind
shape_by zero n c = cond (not zero && (leb 2 n && (leb n 65536 && ltb 0 c))) (some (Lut1d n c)) none

never : (a b : Bool) → a && (b && false) ≡ false
never true true = refl
never true false = refl
never false b = refl

counted : List ℕ → ℕ → Option Kind
counted t n = shape_by (begins_with_zero t) n (lut_columns (behind_digits t))

-- a number above 65,536 is none, however it was counted
counted_none : (t : List ℕ) (n : ℕ) → leb n 65536 ≡ false → counted t n ≡ none
unfolding counted
counted_none t n h =
    ap (λ (v : Bool). cond (not (begins_with_zero t) && (leb 2 n && (v && ltb 0 (lut_columns (behind_digits t))))) (some (Lut1d n (lut_columns (behind_digits t)))) none) h
    ∙ ap (λ (v : Bool). cond v (some (Lut1d n (lut_columns (behind_digits t)))) none) (never (not (begins_with_zero t)) (leb 2 n))

counted-cap : (t : List ℕ) (n m : ℕ) → m ≡ cap n → counted t n ≡ counted t m
counted-cap t n m e = go (leb n 65536) refl
  where
    go : (v : Bool) → leb n 65536 ≡ v → counted t n ≡ counted t m
    go true h =
        let k : n ≤ 65536 = leb-true n 65536 h in
        let w : n ≡ m = omega arith in
        ap (counted t) w
    go false h =
        let k : 65536 < n = leb-false n 65536 h in
        let w : 65536 < m = omega arith in
        counted_none t n h ∙ sym (counted_none t m (lt-leb m 65536 w))

pub shape-by : (t : List ℕ) (r : Digits) → DigitsOf t r → (zero : Bool) → zero ≡ begins_with_zero t → (c : ℕ) → c ≡ lut_columns (drop r.end t) → lut_shape t ≡ shape_by zero r.value c
unfolding lut_shape counted
shape-by t r d zero z c e =
    counted-cap t (whole_from 0 t) r.value d.value ∙ ap (λ (l : List ℕ). shape_by (begins_with_zero t) r.value (lut_columns l)) (sym d.rest)
    ∙ ap (λ (x : ℕ). shape_by (begins_with_zero t) r.value x) (sym e) ∙ ap (λ (x : Bool). shape_by x r.value c) (sym z)

-- ---- by the tests of the code

pub shape-zero : (t : List ℕ) (z : Bool) → z ≡ begins_with_zero t → z ≡ true → none ≡ lut_shape t
unfolding lut_shape
shape-zero t z e h = rw (← e, h)

module _ (t : List ℕ) (r : Digits) (d : DigitsOf t r) where
  -- what stands behind the digits, as `&text[end..]` has it
  abbrev behind : List ℕ
  behind = take (length t - r.end) (drop r.end t)

  behind-is : behind ≡ drop r.end t
  behind-is = take_all (length t - r.end) (drop r.end t) (simp length-drop (omega arith))

  by : (z : Bool) → z ≡ begins_with_zero t → (c : ℕ) → c ≡ lut_columns behind → lut_shape t ≡ shape_by z r.value c
  by z q c e = shape-by t r d z q c (e ∙ ap lut_columns behind-is)

  pub shape-few : r.value < 2 → none ≡ lut_shape t
  shape-few h = sym (by (begins_with_zero t) refl (lut_columns behind) refl ∙ rw (lt-leb 2 r.value h, never₁ (not (begins_with_zero t))))

  pub shape-many : 65536 < r.value → none ≡ lut_shape t
  shape-many h = sym (by (begins_with_zero t) refl (lut_columns behind) refl ∙ rw (lt-leb r.value 65536 h, never (not (begins_with_zero t)) (leb 2 r.value)))

  pub shape-none : (c : ℕ) → c ≡ lut_columns behind → c ≡ 0 → none ≡ lut_shape t
  shape-none c e h = sym (by (begins_with_zero t) refl c e ∙ rw (h, never₃ (not (begins_with_zero t)) (leb 2 r.value) (leb r.value 65536)))

  pub shape_is : (z : Bool) → z ≡ begins_with_zero t → z ≡ false → 2 ≤ r.value → r.value ≤ 65536 → (c : ℕ) → c ≡ lut_columns behind → (c ≡ 0 → ⊥)
      → some (Lut1d r.value c) ≡ lut_shape t
  shape_is z q h k k₂ c e n =
      let p : 0 < c = omega arith in
      sym (by z q c e ∙ rw (h, le-leb 2 r.value k, le-leb r.value 65536 k₂, lt-ltb 0 c p))
