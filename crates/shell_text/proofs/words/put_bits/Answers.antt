use Rattle.shell_text.proofs.Laws.{digits-first, top-more, top-none}
use Rattle.text_out.proofs.Laws.{goes_then, goes_end}
use Rattle.shell_text.proofs.words.put_bits.Goals as goal

-- Assumes nothing.
pub loop-init : goal.loop-init
loop-init c = digits-first _ _ _

pub loop-preserved : goal.loop-preserved
loop-preserved c =
    goes_then c.loop.invariant (top-more c.loop.counter c.loop.rest c.glyph.result c.loop-test.true c.glyph.ensures) c.put-held.ensures

pub returns : goal.returns
returns c = goes_end c.loop.invariant (top-none c.loop.counter c.loop.rest c.loop-test.false)
