-- The rules on names and texts, as equations. Assumes nothing.
use mathlib.Core.Path.{◌≡◌, refl, sym, ap, ◌∙◌}
use mathlib.Core.Bool.{Bool, true, false, cond, ◌||◌}
use mathlib.Core.List.{List, []}
use mathlib.Core.Option.{none, some}
use Prim.Native.Nat.{ℕ, ◌+◌, ◌-◌, ◌≤◌, ◌<◌}
use native.Mathlib.Omega.{arith}
use lib.Dec.{leb}
use lib.ListN.{length, take, drop}
use borrow.Author.Tests.{le-leb, lt-leb}
use Rattle.std.specs.Prelude.{◌⊎◌, Option, Some, None, MatchOption, slice_range}
use Rattle.std.specs.Option.{unwrap_or}
use Rattle.std.proofs.Common.{Bor}
use mathlib.Core.Logic.{inl, inr}
use Rattle.process_list.specs.declared.Depth.TheVariants.{I8, I10, I12, I16, F16, F32}
use Rattle.process_list.specs.declared.Kind.TheVariants.{Matrix}
use Rattle.xml.specs.Bytes.{bytes, same}
use Rattle.xml.specs.Code.{part}
use Rattle.tags.specs.Code.{part_in}
use Rattle.clf.specs.Nodes.{is_some, depth_of, matrix_shape, lut_columns}

pub depth_of-def : (t : List ℕ) → depth_of t ≡
    cond (same t (bytes "8i")) (some I8)
    (cond (same t (bytes "10i")) (some I10)
    (cond (same t (bytes "12i")) (some I12)
    (cond (same t (bytes "16i")) (some I16)
    (cond (same t (bytes "16f")) (some F16)
    (cond (same t (bytes "32f")) (some F32) none)))))
unfolding depth_of
depth_of-def t = refl

pub lut_columns-def : (t : List ℕ) → lut_columns t ≡ cond (same t (bytes " 1")) 1 (cond (same t (bytes " 3")) 3 0)
unfolding lut_columns
lut_columns-def t = refl

-- a Matrix's Array is of two shapes
pub matrix_shape-fault : (t : List ℕ) → ◌≡◌ {A = ℕ} (cond (is_some (matrix_shape t)) 0 8) (cond (same t (bytes "3 3") || same t (bytes "3 4")) 0 8)
unfolding matrix_shape
matrix_shape-fault t = go (same t (bytes "3 3")) (same t (bytes "3 4"))
  where
    go : (a b : Bool) → ◌≡◌ {A = ℕ} (cond (is_some (cond a (some (Matrix false)) (cond b (some (Matrix true)) none))) 0 8) (cond (a || b) 0 8)
    go true b = refl
    go false true = refl
    go false false = refl

-- ---- a part of the bytes, within them or not

either-none : (v : Bool) → ◌≡◌ {A = List ℕ} (cond v [] []) []
either-none true = refl
either-none false = refl

pub part-order : (s : List ℕ) (a e : ℕ) → e < a → [] ≡ part_in s a e
unfolding part_in
part-order s a e h = let z : e - a ≡ 0 = omega arith in sym (ap (λ (n : ℕ). cond (leb e (length s)) (take n (drop a s)) []) z ∙ either-none (leb e (length s)))

pub part-past : (s : List ℕ) (a e : ℕ) → length s < e → [] ≡ part_in s a e
unfolding part_in
part-past s a e h = sym (ap (λ (v : Bool). cond v (part s a e) []) (lt-leb e (length s) h))

pub part_in_lem : (s : List ℕ) (a e : ℕ) → e ≤ length s → part s a e ≡ part_in s a e
unfolding part_in
part_in_lem s a e h = sym (ap (λ (v : Bool). cond v (part s a e) []) (le-leb e (length s) h))

pub part-nothing : (s : List ℕ) → part_in s 0 0 ≡ []
unfolding part_in
part-nothing s = either-none (leb 0 (length s))

-- as `get` has it, and no bytes where it has none
pub part-got : (s : List ℕ) (a e : ℕ) (o : Option (Bor (List ℕ))) (none_there : Bor (List ℕ)) → none_there.now ≡ []
    → MatchOption o ((e < a) ⊎ (length s < e)) (λ x. (a ≤ e) × (e ≤ length s) × (x.now ≡ slice_range s a e) × (length x.now + a ≡ e)) → (unwrap_or o none_there).now ≡ part_in s a e
part-got s a e None d z (inl h) = z ∙ part-order s a e h
part-got s a e None d z (inr h) = z ∙ part-past s a e h
part-got s a e (Some x) d z m = m.2 ∙ part_in_lem s a e m.1
