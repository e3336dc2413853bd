use mathlib.Core.Path.{◌≡◌, refl, ◌∙◌}
use mathlib.Core.Bool.{Bool, true, false, beq}
use mathlib.Core.List.{List, [], ◌∷◌}
use native.Mathlib.Omega.{arith}
use lib.ListN.{length}
use lib.Pointwise.{pointwise}
use Rattle.process_list.specs.declared.RangeEnd.TheVariants.{Minimum, Maximum}
use Rattle.range_node.specs.Code.{only_of}
use borrow.Author.Rules.{rules}
use Rattle.range_node.proofs.only.Goals as goal

minimum : (l : List Bool) → length l ≡ 4 → pointwise beq l (true ∷ false ∷ true ∷ false ∷ []) ≡ only_of Minimum l
unfolding only_of
minimum [] q = absurd (omega arith)
minimum (a ∷ []) q = absurd (omega arith)
minimum (a ∷ b ∷ []) q = absurd (omega arith)
minimum (a ∷ b ∷ c ∷ []) q = absurd (omega arith)
minimum (true ∷ true ∷ true ∷ true ∷ []) q = refl
minimum (true ∷ true ∷ true ∷ false ∷ []) q = refl
minimum (true ∷ true ∷ false ∷ true ∷ []) q = refl
minimum (true ∷ true ∷ false ∷ false ∷ []) q = refl
minimum (true ∷ false ∷ true ∷ true ∷ []) q = refl
minimum (true ∷ false ∷ true ∷ false ∷ []) q = refl
minimum (true ∷ false ∷ false ∷ true ∷ []) q = refl
minimum (true ∷ false ∷ false ∷ false ∷ []) q = refl
minimum (false ∷ true ∷ true ∷ true ∷ []) q = refl
minimum (false ∷ true ∷ true ∷ false ∷ []) q = refl
minimum (false ∷ true ∷ false ∷ true ∷ []) q = refl
minimum (false ∷ true ∷ false ∷ false ∷ []) q = refl
minimum (false ∷ false ∷ true ∷ true ∷ []) q = refl
minimum (false ∷ false ∷ true ∷ false ∷ []) q = refl
minimum (false ∷ false ∷ false ∷ true ∷ []) q = refl
minimum (false ∷ false ∷ false ∷ false ∷ []) q = refl
minimum (a ∷ b ∷ c ∷ d ∷ x ∷ l) q = absurd (omega arith)

maximum : (l : List Bool) → length l ≡ 4 → pointwise beq l (false ∷ true ∷ false ∷ true ∷ []) ≡ only_of Maximum l
unfolding only_of
maximum [] q = absurd (omega arith)
maximum (a ∷ []) q = absurd (omega arith)
maximum (a ∷ b ∷ []) q = absurd (omega arith)
maximum (a ∷ b ∷ c ∷ []) q = absurd (omega arith)
maximum (true ∷ true ∷ true ∷ true ∷ []) q = refl
maximum (true ∷ true ∷ true ∷ false ∷ []) q = refl
maximum (true ∷ true ∷ false ∷ true ∷ []) q = refl
maximum (true ∷ true ∷ false ∷ false ∷ []) q = refl
maximum (true ∷ false ∷ true ∷ true ∷ []) q = refl
maximum (true ∷ false ∷ true ∷ false ∷ []) q = refl
maximum (true ∷ false ∷ false ∷ true ∷ []) q = refl
maximum (true ∷ false ∷ false ∷ false ∷ []) q = refl
maximum (false ∷ true ∷ true ∷ true ∷ []) q = refl
maximum (false ∷ true ∷ true ∷ false ∷ []) q = refl
maximum (false ∷ true ∷ false ∷ true ∷ []) q = refl
maximum (false ∷ true ∷ false ∷ false ∷ []) q = refl
maximum (false ∷ false ∷ true ∷ true ∷ []) q = refl
maximum (false ∷ false ∷ true ∷ false ∷ []) q = refl
maximum (false ∷ false ∷ false ∷ true ∷ []) q = refl
maximum (false ∷ false ∷ false ∷ false ∷ []) q = refl
maximum (a ∷ b ∷ c ∷ d ∷ x ∷ l) q = absurd (omega arith)

pub returns-in-Minimum : goal.returns-in-Minimum
returns-in-Minimum c = let n : length c.args.found ≡ 4 = search rules in rw c.in-Minimum.is (c.eq.ensures ∙ minimum c.args.found n)

pub returns-in-Maximum : goal.returns-in-Maximum
returns-in-Maximum c = let n : length c.args.found ≡ 4 = search rules in rw c.in-Maximum.is (c.eq-in-Maximum.ensures ∙ maximum c.args.found n)
