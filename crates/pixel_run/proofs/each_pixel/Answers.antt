use Rattle.std.proofs.Common.{arith}
use Rattle.pixel_run.specs.EachLaws.{passed_step, passed-end}
use Rattle.pixel_run.proofs.each_pixel.Goals as goal

pub loop-k-preserved : goal.loop-k-preserved
loop-k-preserved g c = (c.loop-k.invariant.0, λ f h. passed_step (c.loop-k.invariant.1 f h) (omega arith) (h _ _ c.step-y.ensures))

pub returns : goal.returns
returns g c = λ f h. passed-end (omega arith) (c.loop-k.invariant.1 f h)
