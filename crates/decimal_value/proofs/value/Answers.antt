use mathlib.Core.Path.{◌∙◌}
use Rattle.std.proofs.Common.{w8, w64, SFits, rules}
use lib.Ieee.{of_bits, of_int}
use Rattle.decimal_value.proofs.Signs.{not_carried, quotient_is, product_is}
use Rattle.decimal_value.proofs.value.Goals as goal

-- The value is the coefficient times or divided by the power of ten, and 0 at a power that is not carried. Assumes nothing.
pub returns-then-size-gt22 : goal.returns-then-size-gt22
unfolding of_bits of_int
returns-then-size-gt22 c =
    let d = c.args.d in
    let f : SFits w64 d.coefficient = search rules in
    let g : SFits w8 d.power = search rules in
    not_carried d f g _ (c.from-size.ensures ∙ c.unsigned_abs.ensures.value) c.if-size-gt22.true

pub returns-then-d-lt0 : goal.returns-then-d-lt0
returns-then-d-lt0 c =
    let d = c.args.d in
    let f : SFits w64 d.coefficient = search rules in
    let g : SFits w8 d.power = search rules in
    quotient_is d f g _ (c.from-size.ensures ∙ c.unsigned_abs.ensures.value) c.if-size-gt22.false _ _ c.whole.ensures c.ten.ensures c.if-d-lt0.true

pub returns-else-d-lt0 : goal.returns-else-d-lt0
returns-else-d-lt0 c =
    let d = c.args.d in
    let f : SFits w64 d.coefficient = search rules in
    let g : SFits w8 d.power = search rules in
    product_is d f g _ (c.from-size.ensures ∙ c.unsigned_abs.ensures.value) c.if-size-gt22.false _ _ c.whole-else-d-lt0.ensures c.ten-else-d-lt0.ensures c.if-d-lt0.false
