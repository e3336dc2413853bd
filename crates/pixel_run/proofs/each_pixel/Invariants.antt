use Rattle.std.proofs.Common.{◌*◌}
use Rattle.pixel_run.specs.EachLaws.{Computes, Passed}
use Rattle.pixel_run.proofs.each_pixel.Given as goal

abbrev pub invariant-loop-k : goal.invariant-loop-k
invariant-loop-k g l = goal.F-IsAlwaysCallable g l.step × ((f : _) → Computes (goal.F-post g l.step) f → Passed f l.initial.pixels l.pixels (3 * l.k))
