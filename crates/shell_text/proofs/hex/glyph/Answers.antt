use Rattle.std.proofs.Common.{arith}
use Rattle.std.proofs.lemmas.Grind.{common_steps}
use Rattle.shell_text.specs.Hex.{glyph_of}
use Rattle.shell_text.proofs.hex.glyph.Goals as goal

pub returns-in-0-to-9 : goal.returns-in-0-to-9
unfolding glyph_of
returns-in-0-to-9 c = grind (arith, common_steps)

pub returns-in-10-to-15 : goal.returns-in-10-to-15
unfolding glyph_of
returns-in-10-to-15 c = grind (arith, common_steps)

pub returns-in_default : goal.returns-in_default
unfolding glyph_of
returns-in_default c = grind (arith, common_steps)
