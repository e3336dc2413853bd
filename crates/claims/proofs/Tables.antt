-- What each Matrix, LUT1D and LUT3D that is read is. Assumes nothing.
use mathlib.Core.Path.{◌≡◌, refl, subst}
use mathlib.Core.Bool.{Bool, true, false, cond, ◌&&◌, ◌||◌, not}
use mathlib.Core.List.{List}
use mathlib.Core.Option.{Option, none, some}
use Prim.Native.Nat.{ℕ}
use native.Mathlib.Omega.{arith}
use lib.Dec.{eqb, leb, ltb}
use Rattle.decimal.specs.declared.Decimal.{Decimal}
use Rattle.process_list.specs.declared.Depth.{Depth}
use Rattle.process_list.specs.declared.Interpolation.{Interpolation}
use Rattle.process_list.specs.declared.Kind.{Kind}
use Rattle.process_list.specs.declared.Kind.TheVariants.{Matrix, Lut1d, Lut3d}
use Rattle.process_list.specs.List.{numbers_of}
use Rattle.valid.specs.Valid.{table_right, cube_right, shape_right, rules_hold, depths_right, sound}
use Rattle.grammar.specs.Laws.{nope}
use Rattle.grammar.specs.Grammar.{ret, seq}
use Rattle.xml.specs.Bytes.{bytes, same}
use Rattle.xml.specs.Xml.{Attribute, text_of, start_tag}
use Rattle.xml.specs.Elements.{held, text_element}
use Rattle.clf.specs.Numbers.{any_number}
use Rattle.clf.specs.Nodes.{is_some, node_rules, matrix_shape, whole_from, behind_digits, begins_with_zero, lut_columns, lut_shape, array_rules, Table, array_of, array, ArrayState, no_array}
use Rattle.clf.specs.Nodes.{array_body, array_holder, table_node, matrix, lut_names, lut_texts, lut1d, cube_dim, cube_shape, cube_texts, interpolation_of, lut3d}
use Rattle.claims.proofs.Always.{Holds, holds-ret, holds-bad, holds-cond, holds-seq, holds_then}
use Rattle.claims.proofs.Numbers.{each_map, Carried, Kept, Counted, numbers-hold}
use Rattle.claims.proofs.Held.{Ended, held-holds}
use Rattle.claims.proofs.Sound.{sound-by}
use Rattle.claims.proofs.Attributes.{IdAllowed, node_by}

-- an option's value has a fact
abbrev pub OptHolds : {A : Type 0} → (A → Type 0) → Option A → Type 0
OptHolds P none = Unit {0}
OptHolds P (some a) = P a

-- a shape that is carried, with no rule on its numbers or its depths
pub record Plain (k : Kind) : Type 0 where
  pub shape : shape_right k ≡ true
  pub rules : (ns : List Decimal) → rules_hold k ns ≡ true
  pub depths : (input output : Depth) → depths_right k input output ≡ true

-- ---- an Array

pub record Tabled (shape : List ℕ → Option Kind) (t : Table) : Type 0 where
  pub dim : List ℕ
  pub shaped : shape dim ≡ some t.0
  pub counted : Counted (numbers_of t.0) any_number t.1

module _ (shape : List ℕ → Option Kind) where
  array_of-holds : (dim : List ℕ) (o : Option Kind) → shape dim ≡ o → Holds (Tabled shape) (array_of o)
  array_of-holds dim none q = holds-bad 8
  array_of-holds dim (some k) q =
      holds-seq (Counted (numbers_of k) any_number) (numbers-hold (bytes "Array") (numbers_of k) any_number) (λ l c. holds-ret (record { dim = dim; shaped = q; counted = c }))

  array-holds : Holds (Tabled shape) (array shape)
  unfolding array
  array-holds = holds_then (start_tag (array_rules shape)) (λ tag. array_of-holds (text_of (bytes "dim") tag.attributes) (shape (text_of (bytes "dim") tag.attributes)) refl)

  abbrev Begun : ArrayState → Type 0
  Begun st = OptHolds (Tabled shape) st.table

  body-holds : (st : ArrayState) → Begun st → (w : List ℕ) → Holds Begun (array_body shape st w)
  body-holds st i w =
      holds-cond (same w (bytes "Array")) (λ z. holds-seq (Tabled shape) (array-holds) (λ t k. holds-ret k)) (λ z. holds_then (text_element w) (λ t. holds-ret i))

  module _ (w : List ℕ) (right : (dim : List ℕ) (k : Kind) → shape dim ≡ some k → Plain k) where
    table-right : (l : List Attribute) → IdAllowed l → (o : Option Table) → OptHolds (Tabled shape) o → ◌≡◌ {A = ℕ} (cond (is_some o) 0 5) 0
        → sound (table_node l (record { table = o })) ≡ true
    table-right l d none i z = absurd (omega arith)
    table-right l d (some t) i z =
        sound-by (table_node l (record { table = some t })) d
        (record {
          shape = (right i.dim t.0 i.shaped).shape;
          count = i.counted.count;
          each = each_map (Kept any_number) Carried t.1 (λ d k. k.carried) i.counted.kept;
          rules = (right i.dim t.0 i.shaped).rules t.1;
          depths = (right i.dim t.0 i.shaped).depths _ _;
        })

    pub table-holds : (l : List Attribute) → IdAllowed l → Holds (λ n. sound n ≡ true) (seq (held (array_holder w shape) no_array) (λ st. ret (table_node l st)))
    table-holds l d =
        holds-seq (Ended (array_holder w shape) Begun (λ st i v h q. body-holds st i v))
        (held-holds (array_holder w shape) Begun (λ st i v h q. body-holds st i v) tt)
        (λ st e. holds-ret (table-right l d st.table e.state e.nothing))

-- ---- the three shapes

matrix-plain : (b : Bool) → Plain (Matrix b)
unfolding shape_right rules_hold depths_right
matrix-plain b = record { shape = refl; rules = λ ns. refl; depths = λ i o. refl }

matrix-right : (dim : List ℕ) (k : Kind) → matrix_shape dim ≡ some k → Plain k
unfolding matrix_shape
matrix-right dim k e = go (same dim (bytes "3 3")) (same dim (bytes "3 4")) e
  where
    go : (a b : Bool) → cond a (some (Matrix false)) (cond b (some (Matrix true)) none) ≡ some k → Plain k
    go true b z = subst Plain (cc) (matrix-plain false)
    go false true z = subst Plain (cc) (matrix-plain true)
    go false false z = nope cc

-- the columns of a `dim` are none, 1 or 3
columns-right : (t : List ℕ) → ltb 0 (lut_columns t) ≡ true → (eqb (lut_columns t) 1 || eqb (lut_columns t) 3) ≡ true
unfolding lut_columns
columns-right t h = go (same t (bytes " 1")) (same t (bytes " 3")) h
  where
    go : (a b : Bool) → ltb 0 (cond a 1 (cond b 3 0)) ≡ true → (eqb (cond a 1 (cond b 3 0)) 1 || eqb (cond a 1 (cond b 3 0)) 3) ≡ true
    go true b z = refl
    go false true z = refl
    go false false z = z

lut-plain : (n : ℕ) (t : List ℕ) → leb 2 n ≡ true → leb n 65536 ≡ true → ltb 0 (lut_columns t) ≡ true → Plain (Lut1d n (lut_columns t))
unfolding shape_right table_right rules_hold depths_right
lut-plain n t p q r = record { shape = rw (p, q, columns-right t r); rules = λ ns. refl; depths = λ i o. refl }

lut-right : (dim : List ℕ) (k : Kind) → lut_shape dim ≡ some k → Plain k
unfolding lut_shape
lut-right dim k e = go (not (begins_with_zero dim)) (leb 2 n) (leb n 65536) (ltb 0 c) refl refl refl e
  where
    n : ℕ
    n = whole_from 0 dim

    c : ℕ
    c = lut_columns (behind_digits dim)

    go : (a b d f : Bool) → leb 2 n ≡ b → leb n 65536 ≡ d → ltb 0 c ≡ f → cond (a && (b && (d && f))) (some (Lut1d n c)) none ≡ some k → Plain k
    go true true true true p q r z = subst Plain (cc) (lut-plain n (behind_digits dim) p q r)
    go true true true false p q r z = nope cc
    go true true false f p q r z = nope cc
    go true false d f p q r z = nope cc
    go false b d f p q r z = nope cc

cube-plain : (i : Interpolation) (n : ℕ) → leb 2 n ≡ true → leb n 33 ≡ true → Plain (Lut3d n i)
unfolding shape_right cube_right rules_hold depths_right
cube-plain i n p q = record { shape = rw (p, q); rules = λ ns. refl; depths = λ i o. refl }

cube-right : (i : Interpolation) (dim : List ℕ) (k : Kind) → cube_shape i dim ≡ some k → Plain k
unfolding cube_shape
cube-right i dim k e = go (leb 2 n) (leb n 33) (same dim (cube_dim n)) refl refl e
  where
    n : ℕ
    n = whole_from 0 dim

    go : (a b d : Bool) → leb 2 n ≡ a → leb n 33 ≡ b → cond (a && (b && d)) (some (Lut3d n i)) none ≡ some k → Plain k
    go true true true p q z = subst Plain (cc) (cube-plain i n p q)
    go true true false p q z = nope cc
    go true false d p q z = nope cc
    go false b d p q z = nope cc

pub matrix-holds : Holds (λ n. sound n ≡ true) matrix
unfolding matrix
matrix-holds = node_by (λ w t. 0) (node_rules (λ w. 0) (λ w t. 0)) refl (λ tag. table-holds matrix_shape (bytes "Matrix") matrix-right tag.attributes)

pub lut1d-holds : Holds (λ n. sound n ≡ true) lut1d
unfolding lut1d
lut1d-holds = node_by lut_texts (node_rules lut_names lut_texts) refl (λ tag. table-holds lut_shape (bytes "LUT1D") lut-right tag.attributes)

pub lut3d-holds : Holds (λ n. sound n ≡ true) lut3d
unfolding lut3d
lut3d-holds =
    node_by cube_texts (node_rules (λ w. 0) cube_texts) refl (λ tag.
    let i = interpolation_of (text_of (bytes "interpolation") tag.attributes) in
    table-holds (cube_shape i) (bytes "LUT3D") (cube-right i) tag.attributes)
