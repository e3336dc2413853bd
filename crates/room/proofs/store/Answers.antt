use native.Mathlib.Omega.{arith}
use borrow.Author.Rules.{rules}
use Rattle.room.proofs.Laws.{stored-in, stored-out}
use Rattle.room.specs.Room.{room_length, stored_in}
use Rattle.room.proofs.Rooms.{same-room}
use Rattle.room.proofs.store.Goals as goal

pub offset_bounds-coefficients-at : goal.offset_bounds-coefficients-at
unfolding room_length
offset_bounds-coefficients-at c = search rules

pub bounds-coefficients-at : goal.bounds-coefficients-at
unfolding room_length
bounds-coefficients-at c = omega arith

pub bounds-powers-at : goal.bounds-powers-at
unfolding room_length
bounds-powers-at c = omega arith

pub returns-then-at-length : goal.returns-then-at-length
unfolding stored_in
returns-then-at-length c = same-room (stored-in _ _ _ _ _ (omega arith) (search rules)) (stored-in _ _ _ _ _ (omega arith) (search rules))

pub returns-else-at-length : goal.returns-else-at-length
unfolding stored_in
returns-else-at-length c = same-room (stored-out _ _ _ _ (omega arith)) (stored-out _ _ _ _ (omega arith))
