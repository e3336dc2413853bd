use Rattle.file_text.proofs.Content.{ContentInv}
use Rattle.room.specs.Room.{lent}
use lib.ListN.{length}
use Prim.Native.Nat.{◌-◌}
use Rattle.file_text.proofs.list_content.Given as goal

abbrev pub invariant-loop-a : goal.invariant-loop-a
invariant-loop-a l = ContentInv l.wanted l.s l.at l.i l.list l.so_far (lent l.initial.coefficients l.initial.powers) (lent l.coefficients l.powers)

abbrev pub decreases-loop-a : goal.decreases-loop-a
decreases-loop-a l = length l.s - l.i
