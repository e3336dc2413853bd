use Rattle.room.specs.Room.{lent, room_length}
use Rattle.pixel_room.specs.RoomLaws.{number-inside}
use mathlib.Core.Path.{◌≡◌, sym, ◌∙◌, ap}
use lib.IntN.{ℤ, pos}
use lib.ListN.{get_or}
use mir.Syntax.{w8, w64}
use mir.Val.{to_z, of_z, SFits}
use mir.ValLaws.{to_z-of_z}
use Rattle.decimal.specs.declared.Decimal.{Decimal}
use Rattle.decimal_value.specs.Value.{value_of}
use borrow.Author.Rules.{rules}
use Rattle.pixel_room.proofs.number_inside.Goals as goal

-- an i64 and an i8 from the slices, as the machine holds them, are themselves
same : (n p : ℤ) → SFits w64 n → SFits w8 p → ◌≡◌ {A = Decimal} (record { coefficient = to_z w64 (of_z w64 n); power = to_z w8 (of_z w8 p) }) (record { coefficient = n; power = p })
same n p h k = simp (to_z-of_z w64 n h, to_z-of_z w8 p k)

pub offset_bounds-coefficients-k : goal.offset_bounds-coefficients-k
unfolding room_length
offset_bounds-coefficients-k c = search rules

pub bounds-coefficients-k : goal.bounds-coefficients-k
unfolding room_length
bounds-coefficients-k c = search rules

pub bounds-powers-k : goal.bounds-powers-k
unfolding room_length
bounds-powers-k c = search rules

pub returns : goal.returns
returns c =
    let a = c.args in
    c.value.ensures
    ∙ ap value_of (same (get_or a.coefficients.now a.k (pos 0)) (get_or a.powers.now a.k (pos 0)) (record { sfits = c.value-arg-1.given })
    (record { sfits = c.value-arg-2-1.given }))
    ∙ sym (number-inside (lent a.coefficients.now a.powers.now) a.k c.requires)
