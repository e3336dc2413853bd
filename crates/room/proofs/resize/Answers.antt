use mathlib.Core.Path.{◌∙◌, sym}
use native.Mathlib.Omega.{arith}
use Rattle.room.proofs.Laws.{resizable-parts, resize-yes, resize-no}
use Rattle.room.specs.Room.{room_length, resized_in}
use Rattle.room.proofs.Rooms.{same-room}
use Rattle.room.proofs.resize.Goals as goal

pub make_way-requires-clause-place : goal.make_way-requires-clause-place
unfolding room_length
make_way-requires-clause-place c =
    let p = resizable-parts _ _ _ _ _ (sym c.can_resize.ensures ∙ c.if-can_resize.true) in
    (omega arith, p.0, p.1, p.2)

pub make_way-requires-then-can_resize-clause-place : goal.make_way-requires-then-can_resize-clause-place
unfolding room_length
make_way-requires-then-can_resize-clause-place c =
    let p = resizable-parts _ _ _ _ _ (sym c.can_resize.ensures ∙ c.if-can_resize.true) in
    (omega arith, p.0, p.1, p.2)

pub returns-then-can_resize : goal.returns-then-can_resize
unfolding resized_in
returns-then-can_resize c =
    same-room
    (resize-yes _ _ _ _ _ _ _ _ _ _ c.length-room.ensures c.can_resize.ensures c.if-can_resize.true c.make_way.ensures)
    (resize-yes _ _ _ _ _ _ _ _ _ _ c.length-room.ensures c.can_resize.ensures c.if-can_resize.true c.make_way-then-can_resize.ensures)

pub returns-else-can_resize : goal.returns-else-can_resize
unfolding resized_in
returns-else-can_resize c =
    same-room
    (resize-no _ _ _ _ _ _ _ _ _ c.length-room.ensures c.can_resize.ensures c.if-can_resize.false)
    (resize-no _ _ _ _ _ _ _ _ _ c.length-room.ensures c.can_resize.ensures c.if-can_resize.false)
