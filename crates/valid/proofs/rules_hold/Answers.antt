use mathlib.Core.Path.{◌≡◌, refl}
use mathlib.Core.Bool.{true}
use mathlib.Core.List.{List}
use Rattle.decimal.specs.declared.Decimal.{Decimal}
use Rattle.process_list.specs.declared.Kind.{Kind}
use Rattle.process_list.specs.declared.Kind.TheVariants.{Matrix, Lut1d, Range, Cdl, Lut3d, OneEnd}
use Rattle.process_list.specs.List.{numbers_of}
use Rattle.valid.specs.Valid.{rules_hold}
use Rattle.valid.proofs.rules_hold.Goals as goal

-- a kind without rules on its numbers
others : (k : Kind) (xs : List Decimal) → ((s : _) → k ≡ Range s → ⊥) → ((s : _) → k ≡ Cdl s → ⊥) → ((e : _) → k ≡ OneEnd e → ⊥) → true ≡ rules_hold k xs
unfolding rules_hold
others (Matrix wide) xs f g h = refl
others (Lut1d e n) xs f g h = refl
others (Range style) xs f g h = absurd (f style refl)
others (Cdl style) xs f g h = absurd (g style refl)
others (Lut3d n i) xs f g h = refl
others (OneEnd end) xs f g h = absurd (h end refl)

pub range_holds-requires : goal.range_holds-requires
unfolding rules_hold numbers_of
range_holds-requires c = rw c.in-Range.is at c.requires

pub cdl_holds-requires : goal.cdl_holds-requires
unfolding rules_hold numbers_of
cdl_holds-requires c = rw c.in-Cdl.is at c.requires

pub one_end_holds-requires : goal.one_end_holds-requires
unfolding rules_hold numbers_of
one_end_holds-requires c = rw c.in-OneEnd.is at c.requires

pub returns-in-Range : goal.returns-in-Range
unfolding rules_hold numbers_of
returns-in-Range c = simp c.in-Range.is c.range_holds.ensures

pub returns-in-Cdl : goal.returns-in-Cdl
unfolding rules_hold numbers_of
returns-in-Cdl c = simp c.in-Cdl.is c.cdl_holds.ensures

pub returns-in-OneEnd : goal.returns-in-OneEnd
unfolding rules_hold numbers_of
returns-in-OneEnd c = simp c.in-OneEnd.is c.one_end_holds.ensures

pub returns-in_default : goal.returns-in_default
returns-in_default c = others _ _ c.in_default.not-Range c.in_default.not-Cdl c.in_default.not-OneEnd
