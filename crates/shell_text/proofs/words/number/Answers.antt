use Rattle.shell_text.proofs.Laws.{zero_by_zero}
use mathlib.Core.Path.{sym, ◌∙◌}
use Rattle.shell_text.proofs.Laws.{by_field, by_digits, nan-of}
use Rattle.shell_text.proofs.words.number.Goals as goal

pub float_from_bits-result : goal.float_from_bits-result
float_from_bits-result c = by_field _ c.if-field-ne2047.true

pub returns-then-n-ne0 : goal.returns-then-n-ne0
returns-then-n-ne0 c = zero_by_zero ∙ sym (nan-of _ c.if-field-ne2047.false c.if-n-ne0.true)

pub float_from_bits-result-2 : goal.float_from_bits-result-2
float_from_bits-result-2 c = by_digits _ c.if-n-ne0.false
