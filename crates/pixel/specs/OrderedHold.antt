-- The first half of a hold.
use Rattle.std.specs.Prelude.{cond, Float}
use Rattle.std.specs.Float.Ieee.{lt}

-- 'hi if x > hi', and x otherwise
unfoldable pub not_above : Float → Float → Float
not_above x hi = cond (lt hi x) hi x
