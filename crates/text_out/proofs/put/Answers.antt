use native.Mathlib.Omega.{arith}
use Rattle.text_out.proofs.Laws.{goes-start, goes_then, goes_end, text-more, text-whole}
use Rattle.text_out.proofs.put.Goals as goal

-- Assumes nothing.
pub loop-b-init : goal.loop-b-init
loop-b-init c = goes-start _ _ _

pub loop-b-preserved : goal.loop-b-preserved
loop-b-preserved c =
    goes_then c.loop-b.invariant (text-more c.args.text.now c.loop-b.b-index c.loop-b-test.true) c.put_byte-held.ensures

pub returns : goal.returns
returns c = goes_end c.loop-b.invariant (text-whole c.args.text.now c.loop-b.b-index (omega arith) (omega arith))
