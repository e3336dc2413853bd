use mathlib.Core.Path.{◌≡◌, refl}
use mathlib.Core.Bool.{true}
use Prim.Native.Nat.{ℕ}
use Rattle.process_list.specs.declared.Kind.{Kind}
use Rattle.process_list.specs.declared.Kind.TheVariants.{Matrix, Lut1d, Range, Cdl, Lut3d, OneEnd}
use Rattle.valid.specs.Valid.{shape_right}
use Rattle.valid.proofs.shape_right.Goals as goal

-- a kind without a shape that is not carried
others : (k : Kind) → ((e n : ℕ) → k ≡ Lut1d e n → ⊥) → ((n : ℕ) (i : _) → k ≡ Lut3d n i → ⊥) → true ≡ shape_right k
unfolding shape_right
others (Matrix wide) f g = refl
others (Lut1d e n) f g = absurd (f e n refl)
others (Range style) f g = refl
others (Cdl style) f g = refl
others (Lut3d n i) f g = absurd (g n i refl)
others (OneEnd end) f g = refl

pub returns-in-Lut1d : goal.returns-in-Lut1d
unfolding shape_right
returns-in-Lut1d c = simp c.in-Lut1d.is c.table_right.ensures

pub returns-in-Lut3d : goal.returns-in-Lut3d
unfolding shape_right
returns-in-Lut3d c = simp c.in-Lut3d.is c.cube_right.ensures

pub returns-in_default : goal.returns-in_default
returns-in_default c = others _ c.in_default.not-Lut1d c.in_default.not-Lut3d
