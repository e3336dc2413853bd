use borrow.Author.Rules.{rules}
use mir.Syntax.{w64}
use mir.Val.{SFits}
use Rattle.decimal_write.proofs.Machine.{is_negative, is-other, size-kept, whole-negative, whole-other}
use Rattle.text_out.proofs.Laws.{puts-negative, puts-other}
use Rattle.text_out.proofs.put_whole.Goals as goal

-- A sign if it is below 0, then the digits of the size. Assumes nothing.
pub returns-then-z-lt0 : goal.returns-then-z-lt0
returns-then-z-lt0 c =
    let z = c.args.z in
    let f : SFits w64 z = search rules in
    let n = whole-negative z (is_negative z f c.if-z-lt0.true) in
    puts-negative z _ n (size-kept z f c.size.ensures) c.put_byte-held.ensures c.put_digits.ensures

pub returns : goal.returns
returns c =
    let z = c.args.z in
    let f : SFits w64 z = search rules in
    puts-other z _ (whole-other z (is-other z f c.if-z-lt0.false)) (size-kept z f c.size-2.ensures) c.put_digits-2.ensures
