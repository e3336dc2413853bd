-- The kinds that an Array's `dim` says have few numbers. Assumes nothing.
use mathlib.Core.Path.{◌≡◌, refl}
use mathlib.Core.Bool.{Bool, true, false, cond, not, ◌&&◌}
use mathlib.Core.List.{List}
use mathlib.Core.Option.{none, some}
use Prim.Native.Nat.{ℕ, ◌*◌, ◌≤◌}
use native.Mathlib.Omega.{arith}
use native.Mathlib.Nat.{mul-le-mul}
use lib.Dec.{leb, ltb}
use borrow.Author.Tests.{leb-true}
use Rattle.grammar.specs.Laws.{nope}
use Rattle.xml.specs.Bytes.{same, bytes}
use Rattle.process_list.specs.declared.Kind.{Kind}
use Rattle.process_list.specs.declared.Kind.TheVariants.{Matrix, Lut1d, Lut3d}
use Rattle.process_list.specs.declared.Interpolation.{Interpolation}
use Rattle.process_list.specs.List.{numbers_of, capped}
use Rattle.process_list.proofs.Laws.{cube-few}
use Rattle.clf.specs.Nodes.{matrix_shape, lut_shape, lut_columns, begins_with_zero, whole_from, behind_digits, cube_dim, cube_shape}
use Rattle.array_node.specs.Code.{shape_of}
use Rattle.array_node.specs.declared.TableKind.{TableKind}
use Rattle.array_node.specs.declared.TableKind.TheVariants as Tables

few : (k : Kind) → numbers_of k ≤ 262144 → capped (numbers_of k) ≡ numbers_of k
unfolding capped
few k h = omega arith

columns : (t : List ℕ) → lut_columns t ≤ 3
unfolding lut_columns
columns t = go (same t (bytes " 1")) (same t (bytes " 3"))
  where
    go : (a b : Bool) → cond a 1 (cond b 3 0) ≤ 3
    go true b = omega arith
    go false true = omega arith
    go false false = omega arith

table : (n c : ℕ) → n ≤ 65536 → c ≤ 3 → numbers_of (Lut1d n c) ≤ 262144
unfolding numbers_of
table n c h k = let m : n * c ≤ 65536 * 3 = mul-le-mul h k in omega arith

nine : numbers_of (Matrix false) ≤ 262144
unfolding numbers_of
nine = omega arith

twelve : numbers_of (Matrix true) ≤ 262144
unfolding numbers_of
twelve = omega arith

matrix : (t : List ℕ) (k : Kind) → some k ≡ matrix_shape t → numbers_of k ≤ 262144
unfolding matrix_shape
matrix t k q = go (same t (bytes "3 3")) (same t (bytes "3 4")) q
  where
    go : (a b : Bool) → some k ≡ cond a (some (Matrix false)) (cond b (some (Matrix true)) none) → numbers_of k ≤ 262144
    go true b q = let z : k ≡ Matrix false = cc in rw z nine
    go false true q = let z : k ≡ Matrix true = cc in rw z twelve
    go false false q = nope cc

lut1d : (t : List ℕ) (k : Kind) → some k ≡ lut_shape t → numbers_of k ≤ 262144
unfolding lut_shape
lut1d t k q = go (begins_with_zero t) (leb 2 n) (leb n 65536) (ltb 0 c) refl q
  where
    n : ℕ
    n = whole_from 0 t

    c : ℕ
    c = lut_columns (behind_digits t)

    go : (z a b d : Bool) → leb n 65536 ≡ b → some k ≡ cond (not z && (a && (b && d))) (some (Lut1d n c)) none → numbers_of k ≤ 262144
    go true a b d e q = nope cc
    go false false b d e q = nope cc
    go false true false d e q = nope cc
    go false true true false e q = nope cc
    go false true true true e q = let z : k ≡ Lut1d n c = cc in rw z (table n c (leb-true n 65536 e) (columns (behind_digits t)))

cube : (i : Interpolation) (n : ℕ) → 2 ≤ n → n ≤ 33 → numbers_of (Lut3d n i) ≤ 262144
unfolding numbers_of
cube i n h k = omega (arith, (cube-few n (omega arith) k).1)

lut3d : (i : Interpolation) (t : List ℕ) (k : Kind) → some k ≡ cube_shape i t → numbers_of k ≤ 262144
unfolding cube_shape
lut3d i t k q = go (leb 2 n) (leb n 33) (same t (cube_dim n)) refl refl q
  where
    n : ℕ
    n = whole_from 0 t

    go : (a b d : Bool) → leb 2 n ≡ a → leb n 33 ≡ b → some k ≡ cond (a && (b && d)) (some (Lut3d n i)) none → numbers_of k ≤ 262144
    go false b d e f q = nope cc
    go true false d e f q = nope cc
    go true true false e f q = nope cc
    go true true true e f q = let z : k ≡ Lut3d n i = cc in rw z (cube i n (leb-true 2 n e) (leb-true n 33 f))

-- as many numbers as the code counts
pub kind-numbers : (table : TableKind) (t : List ℕ) (k : Kind) → some k ≡ shape_of table t → capped (numbers_of k) ≡ numbers_of k
kind-numbers Tables.Lut1d t k q = few k (lut1d t k q)
kind-numbers Tables.Matrix t k q = few k (matrix t k q)
kind-numbers (Tables.Lut3d i) t k q = few k (lut3d i t k q)
