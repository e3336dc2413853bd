use Rattle.text_out.proofs.Laws.{goes_then, goes_end}
use Rattle.shell_text.proofs.Laws.{hex-more, hex-none}
use Rattle.shell_text.proofs.show.put_hex.Goals as goal

pub loop-b-preserved : goal.loop-b-preserved
loop-b-preserved c = goes_then c.loop-b.invariant (hex-more _ c.loop-b.b-index _ c.loop-b-test.true c.hex_pair.ensures) c.put-held.ensures

pub returns : goal.returns
returns c = goes_end c.loop-b.invariant (hex-none _ c.loop-b.b-index c.loop-b-test.false)
