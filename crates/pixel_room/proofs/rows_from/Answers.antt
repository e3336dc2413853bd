use native.Mathlib.Nat.{add-zero}
use Rattle.pixel_room.specs.Room.{rows_at}
use Rattle.pixel_room.proofs.rows_from.Goals as goal
use Rattle.pixel_room.proofs.rows_from.Goals.{then-wide, else-wide}

pub returns : goal.returns
unfolding rows_at
returns c = elim c.if-wide.branch [
  | then-wide w ↦ simp (w.if-wide.true, w.step-is, c.row_from.ensures, c.row_from-2.ensures, c.row_from-3.ensures, add-zero)
  | else-wide w ↦ simp (w.if-wide.false, w.step-is, c.row_from.ensures, c.row_from-2.ensures, c.row_from-3.ensures, add-zero)
]
