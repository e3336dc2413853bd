use mathlib.Core.Path.{◌≡◌, ◌∙◌, ap}
use Prim.Native.Nat.{min}
use native.Mathlib.Omega.{arith}
use borrow.Author.Rules.{rules}
use lib.ListN.{length}
use Rattle.room.proofs.Laws.{part_zeroed, clear-is}
use Rattle.room.specs.Room.{room_length, cleared_in}
use Rattle.room.proofs.Rooms.{same-room}
use Rattle.room.proofs.clear.Goals as goal

pub offset_bounds-coefficients-start : goal.offset_bounds-coefficients-start
unfolding room_length
offset_bounds-coefficients-start c = search rules

pub slice_bounds-fill-end : goal.slice_bounds-fill-end
unfolding room_length
slice_bounds-fill-end c = search rules

pub slice_bounds-fill-end-2 : goal.slice_bounds-fill-end-2
unfolding room_length
slice_bounds-fill-end-2 c = search rules

pub returns : goal.returns
unfolding room_length cleared_in
returns c =
    let e : c.min-end.result ≡ min c.args.to (min (length c.args.coefficients.now) (length c.args.powers.now)) =
    c.min-end.ensures ∙ ap (min c.args.to) c.length.ensures in
    same-room
    (clear-is _ _ _ _ _ _ _ _ e c.min-start.ensures (part_zeroed _ _ _ c.args.coefficients.now _ (omega arith) (omega arith) (c.fill.ensures.after (λ x e. e))))
    (clear-is _ _ _ _ _ _ _ _ e c.min-start.ensures (part_zeroed _ _ _ c.args.powers.now _ (omega arith) (omega arith) (c.fill-2.ensures.after (λ x e. e))))
