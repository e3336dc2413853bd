use Rattle.std.proofs.Common.{rules}
use Rattle.pixel_run.proofs.ClampRuns.{one-end-held}
use Rattle.pixel_run.proofs.run_one_end.Goals as goal

pub returns-clause-each_inside : goal.returns-clause-each_inside
returns-clause-each_inside c = let a = c.args in one-end-held a.end a.limit a.pixels.now c.each_pixel.new.pixels (search rules)
