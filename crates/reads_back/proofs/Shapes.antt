-- `dim` of an Array, as it is written: its digits say the shape. Assumes nothing.
use mathlib.Core.Path.{◌≡◌, refl, sym, ap, ◌∙◌, subst}
use mathlib.Core.Bool.{Bool, true, false, cond, ◌&&◌, ◌||◌}
use mathlib.Core.List.{List, [], ◌∷◌, ◌++◌, append_assoc}
use mathlib.Core.Option.{some}
use Prim.Native.Nat.{ℕ, zero, suc, ◌+◌, ◌-◌, ◌*◌, ◌/◌, ◌%◌, ◌≤◌, ◌<◌}
use native.Mathlib.Omega.{arith}
use lib.Dec.{eqb, leb, ltb}
use borrow.Author.Tests.{leb-true, le-leb, lt-ltb, ltb-false, ne_eqb, eqb-true}
use Rattle.decimal_read.specs.Number.{append}
use Rattle.decimal_write.specs.Written.{digits_within, digits}
use Rattle.decimal_write.specs.Laws as Written
use Rattle.decimal_write.specs.Laws.{Every, more, digits-every, both-every}
use Rattle.decimal_back.specs.Digits.{numbers, digits-say}
use Rattle.process_list.specs.declared.Interpolation.{Interpolation}
use Rattle.process_list.specs.declared.Kind.TheVariants.{Matrix, Lut1d, Lut3d}
use Rattle.valid.specs.Valid.{table_right, cube_right}
use Rattle.valid.proofs.Elements.{both_true}
use Rattle.valid.proofs.Readings.{same_self}
use Rattle.grammar.specs.Laws.{nope}
use Rattle.xml.specs.Bytes.{same, is_digit}
use Rattle.clf.specs.Nodes.{matrix_shape, whole_from, behind_digits, begins_with_zero, lut_columns, lut_shape, cube_dim, cube_shape}
use Rattle.written_form.specs.Written.{dims}
use Rattle.reads_back.proofs.Tags.{in_quotes, quotes-by, quoted}
use Rattle.reads_back.proofs.Numbers.{every_of}

-- ---- its bytes

quoted-digit : (k : ℕ) → k < 10 → in_quotes (48 + k) ≡ true
quoted-digit k h = quotes-by (48 + k) (λ e. omega arith) (λ e. omega arith) (λ e. omega arith)

dims-every : (ns : List ℕ) → Every (λ b. in_quotes b ≡ true) (dims ns)
unfolding dims
dims-every [] = Written.none
dims-every (n ∷ []) = digits-every (λ b. in_quotes b ≡ true) quoted-digit n
dims-every (n ∷ (k ∷ ns)) = both-every (both-every (digits-every (λ b. in_quotes b ≡ true) quoted-digit n) (more refl Written.none)) (dims-every (k ∷ ns))

pub dims-quoted : (ns : List ℕ) → quoted (dims ns) ≡ true
dims-quoted ns = every_of (dims ns) (dims-every ns)

-- ---- a Matrix

pub matrix-shape : (wide : Bool) → matrix_shape (dims (3 ∷ cond wide 4 3 ∷ [])) ≡ some (Matrix wide)
unfolding matrix_shape same dims digits digits_within
matrix-shape true = refl
matrix-shape false = refl

-- ---- the whole number that it begins with

abbrev Digits : List ℕ → Type 0
Digits l = Every (λ b. is_digit b ≡ true) l

digit-is : (k : ℕ) → k < 10 → is_digit (48 + k) ≡ true
unfolding is_digit
digit-is k h = rw (le-leb 48 (48 + k) (omega arith), le-leb (48 + k) 57 (omega arith))

no_digit : is_digit 32 ≡ false
unfolding is_digit
no_digit = refl

whole-all : {l : List ℕ} (n : ℕ) (r : List ℕ) → Digits l → whole_from n (l ++ 32 ∷ r) ≡ append n (numbers l)
unfolding append
whole-all n r Written.none = rw no_digit
whole-all n r (more {b = b} {l = l} d p) = rw d (whole-all (n * 10 + (b - 48)) r p)

behind-all : {l : List ℕ} (r : List ℕ) → Digits l → behind_digits (l ++ 32 ∷ r) ≡ 32 ∷ r
behind-all r Written.none = rw no_digit
behind-all r (more {b = b} {l = l} d p) = rw d (behind-all r p)

within_first : (f n : ℕ) (r : List ℕ) → 1 ≤ n → n ≤ f → begins_with_zero (digits_within f n ++ r) ≡ false
unfolding digits_within
within_first zero n r h k = absurd (omega arith)
within_first (suc f) n r h k = go (ltb n 10) refl (within_first f (n / 10) ((48 + n % 10) ∷ r))
  where
    go : (v : Bool) → ltb n 10 ≡ v → (1 ≤ n / 10 → n / 10 ≤ f → begins_with_zero (digits_within f (n / 10) ++ (48 + n % 10) ∷ r) ≡ false)
        → begins_with_zero (cond v ((48 + n) ∷ []) (digits_within f (n / 10) ++ ((48 + n % 10) ∷ [])) ++ r) ≡ false
    go true e ih = ne_eqb (48 + n) 48 (λ z. omega arith)
    go false e ih =
        let l : 10 ≤ n = ltb-false n 10 e in
        ap begins_with_zero (append_assoc (digits_within f (n / 10)) ((48 + n % 10) ∷ []) r) ∙ ih (omega arith) (omega arith)

-- 'digits, no leading zero'
first-digit : (n : ℕ) (r : List ℕ) → 1 ≤ n → begins_with_zero (digits n ++ r) ≡ false
unfolding digits
first-digit n r h = within_first n n r h (omega arith)

-- the first of the dims, one space, the others
dims-first : (n k : ℕ) (ns : List ℕ) → dims (n ∷ (k ∷ ns)) ≡ digits n ++ 32 ∷ dims (k ∷ ns)
unfolding dims
dims-first n k ns = append_assoc (digits n) (32 ∷ []) (dims (k ∷ ns))

first_said : (n k : ℕ) (ns : List ℕ) → whole_from 0 (dims (n ∷ (k ∷ ns))) ≡ n
first_said n k ns = ap (whole_from 0) (dims-first n k ns) ∙ whole-all 0 (dims (k ∷ ns)) (digits-every (λ b. is_digit b ≡ true) digit-is n) ∙ digits-say n

-- ---- a LUT1D

columns-said : (c : ℕ) → (eqb c 1 || eqb c 3) ≡ true → (lut_columns (32 ∷ digits c) ≡ c) × (0 < c)
unfolding lut_columns digits digits_within same
columns-said c h = go (eqb c 1) (eqb c 3) refl refl h
  where
    is : (k : ℕ) → c ≡ k → (lut_columns (32 ∷ digits k) ≡ k) × (0 < k) → (lut_columns (32 ∷ digits c) ≡ c) × (0 < c)
    is k e x = subst (λ (m : ℕ). (lut_columns (32 ∷ digits m) ≡ m) × (0 < m)) (sym e) x

    go : (x y : Bool) → eqb c 1 ≡ x → eqb c 3 ≡ y → (x || y) ≡ true → (lut_columns (32 ∷ digits c) ≡ c) × (0 < c)
    go true y p q z = is 1 (eqb-true c 1 p) (refl, omega arith)
    go false true p q z = is 3 (eqb-true c 3 q) (refl, omega arith)
    go false false p q z = nope cc

pub lut-shape : (n c : ℕ) → table_right n c ≡ true → lut_shape (dims (n ∷ c ∷ [])) ≡ some (Lut1d n c)
unfolding lut_shape table_right dims
lut-shape n c h =
    let p = both_true (leb 2 n && leb n 65536) (eqb c 1 || eqb c 3) h in
    let q = both_true (leb 2 n) (leb n 65536) p.0 in
    let l : 2 ≤ n = leb-true 2 n q.0 in
    let k = columns-said c p.1 in
    let t : List ℕ = dims (n ∷ c ∷ []) in
    let e : t ≡ digits n ++ 32 ∷ digits c = dims-first n c [] in
    let a : whole_from 0 t ≡ n = first_said n c [] in
    let b : lut_columns (behind_digits t) ≡ c = ap (λ (s : List ℕ). lut_columns (behind_digits s)) e ∙ ap lut_columns (behind-all (digits c) (digits-every (λ b. is_digit b ≡ true) digit-is n)) ∙ k.0 in
    let z : begins_with_zero t ≡ false = ap begins_with_zero e ∙ first-digit n (32 ∷ digits c) (omega arith) in
    rw (a, b, z, q.0, q.1, lt-ltb 0 c k.1)

-- ---- a LUT3D

-- four pieces with one between each, grouped as `dims` and as `cube_dim` group them
grouped : (d s e : List ℕ) → (d ++ s) ++ ((d ++ s) ++ ((d ++ s) ++ e)) ≡ d ++ s ++ d ++ s ++ d ++ (s ++ e)
grouped d s e = simp append_assoc

cube-dims : (n : ℕ) → dims (n ∷ n ∷ n ∷ 3 ∷ []) ≡ cube_dim n
unfolding dims cube_dim digits digits_within
cube-dims n = grouped (digits n) (32 ∷ []) (51 ∷ [])

pub cube-shape : (i : Interpolation) (n : ℕ) → cube_right n ≡ true → cube_shape i (dims (n ∷ n ∷ n ∷ 3 ∷ [])) ≡ some (Lut3d n i)
unfolding cube_shape cube_right
cube-shape i n h =
    let q = both_true (leb 2 n) (leb n 33) h in
    let t : List ℕ = dims (n ∷ n ∷ n ∷ 3 ∷ []) in
    let a : whole_from 0 t ≡ n = first_said n n (n ∷ 3 ∷ []) in
    let b : same t (cube_dim n) ≡ true = ap (same t) (sym (cube-dims n)) ∙ same_self t in
    rw (a, b, q.0, q.1)
