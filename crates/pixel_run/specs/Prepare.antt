-- A Range with four values and an ASC_CDL with the f64 of their numbers, and a Range with one end with the f64 of its limit; the numbers stand in the table room from `at` on.
use Rattle.std.specs.Prelude.{Bool, ℕ, ◌+◌}
use Rattle.room.specs.Room.{Room}
use Rattle.pixel_room.specs.Room.{number_at}
use Rattle.pixel_run.specs.declared.Prepared.{Prepared}
use Rattle.process_list.specs.declared.RangeEnd.{RangeEnd}
use Rattle.pixel_run.specs.declared.Prepared.TheVariants.{Range, Cdl, OneEnd}

-- 'Range 4 (in the order above)': minInValue, maxInValue, minOutValue, maxOutValue
unfoldable pub range_from : Room → ℕ → Bool → Prepared
range_from m at clamp =
    Range
    (number_at m (at + 0))
    (number_at m (at + 1))
    (number_at m (at + 2))
    (number_at m (at + 3))
    clamp

-- a Range with one end (02, W-202): the limit is its in value; in a valid list its out value equals it (`one_end_holds` of `valid`)
unfoldable pub one_end_from : Room → ℕ → RangeEnd → Prepared
one_end_from m at end = OneEnd end (number_at m (at + 0))

-- 'ASC_CDL 10': 'Slope, Offset, Power in this order, three numbers each', then Saturation
unfoldable pub cdl_from : Room → ℕ → Bool → Prepared
cdl_from m at clamp =
    Cdl
    (number_at m (at + 0))
    (number_at m (at + 1))
    (number_at m (at + 2))
    (number_at m (at + 3))
    (number_at m (at + 4))
    (number_at m (at + 5))
    (number_at m (at + 6))
    (number_at m (at + 7))
    (number_at m (at + 8))
    (number_at m (at + 9))
    clamp
