use mathlib.Core.Path.{sym, ◌∙◌}
use mathlib.Core.List.{◌++◌, append_assoc}
use borrow.Author.Rules.{rules}
use mir.Syntax.{w8, w64}
use mir.Val.{SFits}
use mir.ValLaws.{to_z-of_z}
use Rattle.decimal_write.specs.Written.{whole_text, exponent}
use Rattle.decimal_write.specs.Laws.{written-parts, written_none}
use Rattle.decimal_write.proofs.Machine.{wide-kept}
use Rattle.text_out.proofs.Laws.{puts_none, puts-as, puts-by, puts_then}
use Rattle.text_out.proofs.put_number.Goals as goal

-- The coefficient, then the exponent; nothing where the pair is out of range. Assumes nothing.
pub returns-then-in_range : goal.returns-then-in_range
returns-then-in_range c =
    let d = c.args.number in
    let f : SFits w64 d.coefficient = search rules in
    let g : SFits w8 d.power = search rules in
    let w = puts-by (λ z t. whole_text z ++ t) (sym (to_z-of_z w64 d.coefficient f)) c.put_whole-held.ensures in
    let e = puts-by (λ z t. exponent z ++ t) (sym (wide-kept d.power g c.wide.ensures)) c.put_exponent.ensures in
    puts-as (λ t. rw (written-parts d (sym c.in_range.ensures ∙ c.if-in_range.true), append_assoc)) (puts_then w e)

pub returns : goal.returns
returns c = puts_none (λ t. rw (written_none _ (sym c.in_range.ensures ∙ c.if-in_range.false)))
