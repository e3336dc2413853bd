use native.Mathlib.Omega.{arith}
use Rattle.room.specs.Room.{lent, room_length}
use Rattle.text_out.proofs.Laws.{goes_then, goes_end, puts_then}
use Rattle.writing.proofs.Laws.{rows_all, rows_start, rows_next, rows_last, rows_left}
use borrow.Author.Rules.{rules}
use Rattle.writing.proofs.numbers.put_rows.Goals as goal

-- What is left are the rows from row i on, whose numbers stand in the room from k on. Assumes nothing.
pub loop-i-init : goal.loop-i-init
loop-i-init c = (search rules, rows_all _ _ _, rows_start _ _ _ _ _ _)

pub put_row-held-requires : goal.put_row-held-requires
put_row-held-requires c =
    let e = rows_left c.args.rows c.args.columns c.loop-i.i (omega arith) in
    search rules

pub overflow_add-k : goal.overflow_add-k
unfolding room_length
overflow_add-k c =
    let e =
    rows_left c.args.rows
    c.args.columns c.loop-i.i (omega arith) in
    search rules

pub loop-i-preserved : goal.loop-i-preserved
loop-i-preserved c =
    let a = c.args in
    let e = rows_left a.rows a.columns c.loop-i.i (omega arith) in
    let n = rows_next (lent a.coefficients.now a.powers.now) c.loop-i.k a.rows a.columns c.loop-i.i (omega arith) in
    (search rules, search rules, goes_then c.loop-i.invariant.2 n (puts_then c.put_row-held.ensures c.put-held.ensures))

pub returns : goal.returns
returns c =
    let a = c.args in
    goes_end c.loop-i.invariant.2 (rows_last (lent a.coefficients.now a.powers.now) c.loop-i.k a.rows a.columns c.loop-i.i (omega arith))
