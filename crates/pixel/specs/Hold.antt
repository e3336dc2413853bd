-- Document 01, 'What a pixel goes through', Hold.
use Rattle.std.specs.Prelude.{cond, Float}
use Rattle.std.specs.Float.Ieee.{lt}

-- 'Hold of x between lo and hi: hi if x > hi; else x if x > lo; else lo. So NaN gives lo.'
unfoldable pub hold : Float → Float → Float → Float
hold x lo hi = cond (lt hi x) hi (cond (lt lo x) x lo)
