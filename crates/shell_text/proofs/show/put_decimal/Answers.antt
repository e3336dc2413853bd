use mathlib.Core.Path.{sym}
use mathlib.Core.List.{◌++◌}
use mir.Syntax.{w8, w64}
use mir.Val.{SFits}
use mir.ValLaws.{to_z-of_z}
use Rattle.decimal_write.specs.Written.{whole_text}
use Rattle.decimal_write.proofs.Machine.{wide-kept}
use Rattle.text_out.proofs.Laws.{puts-by, puts_then}
use Rattle.shell_text.specs.Show.{decimal_text}
use borrow.Author.Rules.{rules}
use Rattle.shell_text.proofs.show.put_decimal.Goals as goal

-- Two whole numbers, and `:` between them. Assumes nothing.
pub returns : goal.returns
unfolding decimal_text
returns c =
    let f : SFits w64 c.args.coefficient = search rules in
    let g : SFits w8 c.args.power = search rules in
    let p = puts-by (λ z t. whole_text z ++ t) (sym (to_z-of_z w64 c.args.coefficient f)) c.put_whole-a.ensures in
    let q = puts-by (λ z t. whole_text z ++ t) (sym (wide-kept c.args.power g c.wide.ensures)) c.put_whole.ensures in
    puts_then p (puts_then c.put-b.ensures q)
