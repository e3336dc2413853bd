-- The library's test of a float is that of `specs/Finite`. Assumes nothing.
use Rattle.std.specs.Prelude.{◌≡◌, Float}
use Rattle.std.proofs.Common.{refl}
use Rattle.std.specs.Float.{nan, inf, fin, float_is_finite}
use Rattle.std.specs.Float.Ieee.Scale.{finite}

pub same-finite : (x : Float) → float_is_finite x ≡ finite x
unfolding float_is_finite
same-finite nan = refl
same-finite (inf s) = refl
same-finite (fin s m e) = refl
