use mathlib.Core.Path.{◌≡◌}
use mathlib.Core.Bool.{true, false}
use lib.Dec.{eqb}
use Rattle.std.proofs.Common.{arith}
use Rattle.std.proofs.lemmas.Grind.{common_steps}
use Rattle.fields.proofs.Places.{first-is}
use Rattle.shell_text.specs.Lines.{line_end}
use Rattle.shell_text.proofs.Laws.{line_end-nil, line_end-cons}
use Rattle.shell_text.proofs.lines.line_end.Goals as goal

pub returns : goal.returns
returns c =
    first-is _ c.args.bytes.now line_end line_end-nil
    (λ at b l t. let e : eqb b 10 ≡ true = grind (arith, common_steps) in rw (line_end-cons, e))
    (λ at b l t. let e : eqb b 10 ≡ false = grind (arith, common_steps) in rw (line_end-cons, e))
    c.args.from c.first_byte.result c.first_byte.ensures
