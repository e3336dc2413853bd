use Rattle.std.proofs.Common.{◌≡◌, ◌+◌, drop}
use Rattle.pixel_run.specs.Finite.{first_not_finite}
use Rattle.pixel_run.proofs.first_not_finite.Given as goal

abbrev pub invariant-loop-i : goal.invariant-loop-i
invariant-loop-i l = l.i + first_not_finite (drop l.i l.pixels) ≡ first_not_finite l.pixels
