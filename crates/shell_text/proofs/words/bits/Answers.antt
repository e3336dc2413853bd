use Rattle.shell_text.proofs.Laws.{digit-below, bits-end, bits-bad, bits-more}
use Rattle.shell_text.specs.Words.{bits_of}
use mathlib.Core.Path.{sym, ◌∙◌}
use Rattle.std.proofs.Common.{arith}
use Rattle.std.proofs.lemmas.Grind.{common_steps}
use Rattle.shell_text.proofs.words.bits.Goals as goal

pub returns-then-word-ne16 : goal.returns-then-word-ne16
unfolding bits_of
returns-then-word-ne16 c = grind (arith, common_steps)

pub loop-b-init : goal.loop-b-init
unfolding bits_of
loop-b-init c = grind (arith, common_steps)

pub returns-in_err-d : goal.returns-in_err-d
returns-in_err-d c =
    c.from_residual.ensures
    ∙ sym (c.loop-b.invariant ∙ bits-bad c.args.word.now c.loop-b.n c.loop-b.b-index c.loop-b-test.true (sym c.digit.ensures ∙ c.in_err-d.was))

pub overflow_add-n : goal.overflow_add-n
overflow_add-n c =
    let d = digit-below _ c.in_ok-d.d (sym c.digit.ensures ∙ c.in_ok-d.was) in
    omega arith

pub loop-b-preserved : goal.loop-b-preserved
loop-b-preserved c =
    c.loop-b.invariant ∙ bits-more c.args.word.now c.loop-b.n c.loop-b.b-index c.loop-b-test.true c.in_ok-d.d (sym c.digit.ensures ∙ c.in_ok-d.was)

pub returns : goal.returns
returns c = sym (c.loop-b.invariant ∙ bits-end c.args.word.now c.loop-b.n c.loop-b.b-index c.loop-b-test.false)
