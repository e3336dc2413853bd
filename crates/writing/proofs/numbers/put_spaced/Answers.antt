use native.Mathlib.Omega.{arith}
use Rattle.room.specs.Room.{lent, room_length}
use Rattle.text_out.proofs.Laws.{goes_then, goes_end, puts_then}
use Rattle.writing.proofs.Laws.{spaced-start, spaced-next, spaced-last}
use borrow.Author.Rules.{rules}
use Rattle.writing.proofs.numbers.put_spaced.Goals as goal

-- What is left are the numbers from index i on. Assumes nothing.
pub loop-i-init : goal.loop-i-init
loop-i-init c = (search rules, spaced-start _ _ _ _ _)

pub overflow_add-from : goal.overflow_add-from
unfolding room_length
overflow_add-from c = search rules

pub loop-i-preserved : goal.loop-i-preserved
loop-i-preserved c =
    let a = c.args in
    let h = c.requires in
    let n = spaced-next (lent a.coefficients.now a.powers.now) a.from a.count h c.loop-i.i (omega arith) in
    (search rules, goes_then c.loop-i.invariant.1 n (puts_then c.put-held.ensures c.put_number-held.ensures))

pub returns : goal.returns
returns c =
    let a = c.args in
    let h = c.requires in
    goes_end c.loop-i.invariant.1 (spaced-last (lent a.coefficients.now a.powers.now) a.from a.count h c.loop-i.i (omega arith))
