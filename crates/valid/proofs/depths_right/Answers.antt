use mathlib.Core.Path.{◌≡◌, refl}
use mathlib.Core.Bool.{true}
use borrow.Author.Rules.{rules}
use Rattle.process_list.specs.declared.Depth.{Depth}
use Rattle.process_list.specs.declared.Kind.{Kind}
use Rattle.process_list.specs.declared.Kind.TheVariants.{Matrix, Lut1d, Range, Cdl, Lut3d, OneEnd}
use Rattle.process_list.specs.List.{same_depth}
use Rattle.valid.specs.Valid.{depths_right}
use Rattle.valid.proofs.depths_right.Goals as goal

-- a kind without a rule on its depths
others : (k : Kind) (i o : Depth) → ((e : _) → k ≡ OneEnd e → ⊥) → true ≡ depths_right k i o
unfolding depths_right
others (Matrix wide) i o f = refl
others (Lut1d e n) i o f = refl
others (Range style) i o f = refl
others (Cdl style) i o f = refl
others (Lut3d n m) i o f = refl
others (OneEnd end) i o f = absurd (f end refl)

pub returns-in-OneEnd : goal.returns-in-OneEnd
unfolding depths_right same_depth
returns-in-OneEnd c = simp c.in-OneEnd.is (search rules)

pub returns-in_default : goal.returns-in_default
returns-in_default c = others _ _ _ c.in_default.not-OneEnd
