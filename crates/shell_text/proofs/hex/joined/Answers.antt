use Rattle.std.proofs.Common.{arith}
use Rattle.std.proofs.lemmas.Grind.{common_steps}
use mathlib.Core.Path.{sym, ◌∙◌}
use Rattle.shell_text.specs.Hex.{joined_of}
use Rattle.shell_text.proofs.Laws.{digit-below}
use Rattle.shell_text.proofs.hex.joined.Goals as goal

pub returns-in_err-h : goal.returns-in_err-h
unfolding joined_of
returns-in_err-h c = grind (arith, common_steps)

pub returns-in_err-l : goal.returns-in_err-l
unfolding joined_of
returns-in_err-l c = grind (arith, common_steps)

pub returns : goal.returns
unfolding joined_of
returns c = grind (arith, common_steps)

pub overflow_mul-result : goal.overflow_mul-result
overflow_mul-result c =
    let h = digit-below c.args.high c.in_ok-h.h (sym c.digit.ensures ∙ c.in_ok-h.was) in
    let l = digit-below c.args.low c.in_ok-l.l (sym c.digit-2.ensures ∙ c.in_ok-l.was) in
    omega arith

pub overflow_add-result : goal.overflow_add-result
overflow_add-result c =
    let h = digit-below c.args.high c.in_ok-h.h (sym c.digit.ensures ∙ c.in_ok-h.was) in
    let l = digit-below c.args.low c.in_ok-l.l (sym c.digit-2.ensures ∙ c.in_ok-l.was) in
    omega arith
