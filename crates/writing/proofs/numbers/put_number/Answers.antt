use borrow.Author.Rules.{rules}
use mir.Val.{SFits}
use lib.ListN.{get_or}
use lib.IntN.{pos}
use mir.ValLaws.{to_z-of_z}
use mir.Syntax.{w8, w64}
use Rattle.room.specs.Room.{room_length}
use Rattle.valid.specs.Valid.{decimal_at}
use Rattle.writing.proofs.numbers.put_number.Goals as goal

-- A number of the room. Assumes nothing.
pub offset_bounds-coefficients-k : goal.offset_bounds-coefficients-k
unfolding room_length
offset_bounds-coefficients-k c = search rules

pub bounds-coefficients-k : goal.bounds-coefficients-k
unfolding room_length
bounds-coefficients-k c = search rules

pub bounds-powers-k : goal.bounds-powers-k
unfolding room_length
bounds-powers-k c = search rules

pub returns : goal.returns
unfolding decimal_at
returns c =
    let s = c.args in
    let f1 : SFits w64 (get_or s.coefficients.now s.k (pos 0)) = search rules in
    let f2 : SFits w8 (get_or s.powers.now s.k (pos 0)) = search rules in
    let e1 = to_z-of_z w64 (get_or s.coefficients.now s.k (pos 0)) f1 in
    let e2 = to_z-of_z w8 (get_or s.powers.now s.k (pos 0)) f2 in
    simp (e1, e2) at c.put_number.ensures
