use native.Mathlib.Omega.{arith}
use mathlib.Core.Path.{sym, ◌∙◌}
use Rattle.tags.proofs.Dims.{digits-start, digits_more, digits-stop, digits-end}
use Rattle.tags.proofs.digits_of.Goals as goal

pub loop-i-init : goal.loop-i-init
loop-i-init c = digits-start _

pub returns-then-not-is_digit : goal.returns-then-not-is_digit
returns-then-not-is_digit c = digits-stop _ _ _ c.loop-i.invariant (omega arith) (sym c.is_digit.ensures ∙ c.if-not-is_digit.true)

pub loop-i-preserved : goal.loop-i-preserved
loop-i-preserved c = digits_more _ _ _ c.loop-i.invariant _ (omega arith) (sym c.is_digit.ensures ∙ c.if-not-is_digit.false) c.with_digit-value.ensures

pub returns : goal.returns
returns c = digits-end _ _ _ c.loop-i.invariant (omega arith)
