use Rattle.std.proofs.Common.{◌≡◌, ◌&&◌, drop}
use Rattle.pixel_run.specs.FiniteLaws.{all_finite}
use Rattle.pixel_run.proofs.all_finite.Given as goal

abbrev pub invariant-loop-x : goal.invariant-loop-x
invariant-loop-x l = all_finite l.pixels ≡ (l.ok && all_finite (drop l.x-index l.pixels))
