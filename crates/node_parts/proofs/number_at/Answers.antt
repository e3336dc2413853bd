use native.Mathlib.Omega.{arith}
use Rattle.room.specs.Room.{room_length}
use Rattle.node_parts.proofs.Smalls.{number_in, number-out}
use mir.Facts.{to_z-of_z}
use mir.Syntax.{w8, w64}
use mir.Val.{SFits}
use lib.IntN.{pos}
use lib.ListN.{get_or}
use borrow.Author.Rules.{rules}
use Rattle.node_parts.proofs.number_at.Goals as goal

pub offset_bounds-coefficients-k : goal.offset_bounds-coefficients-k
unfolding room_length
offset_bounds-coefficients-k c = search rules

pub bounds-coefficients-k : goal.bounds-coefficients-k
unfolding room_length
bounds-coefficients-k c = search rules

pub bounds-powers-k : goal.bounds-powers-k
unfolding room_length
bounds-powers-k c = search rules

pub returns-then-k-length : goal.returns-then-k-length
returns-then-k-length c =
    let a : SFits w64 (get_or c.args.coefficients.now c.args.k (pos 0)) = search rules in
    let b : SFits w8 (get_or c.args.powers.now c.args.k (pos 0)) = search rules in
    rw (to_z-of_z a, to_z-of_z b) (number_in _ _ (omega arith))

pub returns : goal.returns
returns c = number-out _ _ (omega arith)
