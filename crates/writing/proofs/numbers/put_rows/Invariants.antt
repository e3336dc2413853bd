use mathlib.Core.Path.{◌≡◌}
use Prim.Native.Nat.{◌+◌, ◌-◌, ◌*◌, ◌≤◌}
use Rattle.room.specs.Room.{lent}
use Rattle.valid.specs.Valid.{numbers_at}
use Rattle.text_out.specs.Output.{Goes}
use Rattle.written_form.proofs.Tail.{rows_text}
use Rattle.writing.proofs.numbers.put_rows.Given as goal

abbrev pub invariant-loop-i : goal.invariant-loop-i
invariant-loop-i l =
    (l.i ≤ l.rows)
    × (l.k + (l.rows - l.i) * l.columns ≡ l.from + l.rows * l.columns)
    × Goes (rows_text l.rows l.columns (numbers_at (lent l.coefficients l.powers) l.from (l.rows * l.columns)))
    (rows_text (l.rows - l.i) l.columns (numbers_at (lent l.coefficients l.powers) l.k ((l.rows - l.i) * l.columns))) l.at l.initial.out l.out l.held

abbrev pub decreases-loop-i : goal.decreases-loop-i
decreases-loop-i l = l.rows - l.i
