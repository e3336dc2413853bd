use Rattle.text_out.proofs.Laws.{puts_then}
use Rattle.check_line.proofs.put_two.Goals as goal

-- The pieces, one after the other. Assumes nothing.
pub returns : goal.returns
returns c =
    let p = c.put-a.ensures in
    let q = c.put_digits-b.ensures in
    let x = c.put-c.ensures in
    puts_then p (puts_then q (puts_then x (puts_then c.put_digits-d.ensures c.put.ensures)))
