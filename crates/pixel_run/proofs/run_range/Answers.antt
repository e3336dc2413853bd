use Rattle.std.proofs.Common.{rules}
use Rattle.pixel_run.proofs.ClampRuns.{range-held}
use Rattle.pixel_run.proofs.run_range.Goals as goal

pub returns-clause-each_within : goal.returns-clause-each_within
returns-clause-each_within c = let a = c.args in range-held a.min_in a.max_in a.min_out a.max_out a.clamp a.pixels.now c.each_pixel.new.pixels (search rules)
