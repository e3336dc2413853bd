use mathlib.Core.Path.{sym}
use mathlib.Core.List.{◌++◌}
use borrow.Author.Rules.{rules}
use mir.Syntax.{w64}
use mir.Val.{SFits}
use mir.ValLaws.{to_z-of_z}
use Rattle.decimal_write.specs.Written.{whole_text}
use Rattle.decimal_write.proofs.Machine.{is_zero, not-zero, no-exponent, some-exponent}
use Rattle.text_out.proofs.Laws.{puts_none, puts-as, puts-by, puts_then}
use Rattle.text_out.proofs.put_exponent.Goals as goal

-- Nothing at 0, else `e` and the power. Assumes nothing.
pub returns-then-p-eq0 : goal.returns-then-p-eq0
returns-then-p-eq0 c =
    let p = c.args.p in
    let f : SFits w64 p = search rules in
    puts_none (λ t. rw (no-exponent p (is_zero p f c.if-p-eq0.true)))

pub returns : goal.returns
returns c =
    let p = c.args.p in
    let f : SFits w64 p = search rules in
    let w = puts-by (λ z t. whole_text z ++ t) (sym (to_z-of_z w64 p f)) c.put_whole.ensures in
    puts-as (λ t. rw (some-exponent p (not-zero p c.if-p-eq0.false))) (puts_then c.put_byte-held.ensures w)
