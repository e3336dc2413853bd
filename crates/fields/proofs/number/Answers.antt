use mathlib.Core.Path.{sym, ◌∙◌}
use native.Mathlib.Omega.{arith}
use Rattle.std.proofs.lemmas.Grind.{common_steps}
use Rattle.scanning.specs.Steps.{scan, from-here}
use Rattle.fields.specs.Laws.{number_from-laws, no_word, some_word, digit-more}
use Rattle.fields.proofs.Places.{digit_none}
use Rattle.fields.proofs.number.Goals as goal

pub returns-then-is_empty : goal.returns-then-is_empty
returns-then-is_empty c = no_word _ (grind (arith, common_steps))

pub loop-b-init : goal.loop-b-init
loop-b-init c = some_word _ (grind (arith, common_steps))

pub returns-then-not-is_ascii_digit : goal.returns-then-not-is_ascii_digit
returns-then-not-is_ascii_digit c = digit_none _ _ _ c.loop-b-test.true (sym c.if-not-is_ascii_digit.ensures.value) ∙ sym c.loop-b.invariant

pub loop-b-preserved : goal.loop-b-preserved
loop-b-preserved c =
    c.loop-b.invariant
    ∙ digit-more c.args.word.now c.loop-b.n c.with_digit-n.result c.loop-b.b-index (omega arith) (grind (arith, common_steps)) (grind (arith, common_steps)) c.with_digit-n.ensures

pub returns : goal.returns
returns c = search (scan, from-here, number_from-laws)
