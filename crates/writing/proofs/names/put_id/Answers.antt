use native.Mathlib.Omega.{arith}
use Rattle.ids.proofs.Laws.{text-short, text-part}
use Rattle.text_out.proofs.Laws.{puts_none, puts-as, puts_then}
use Rattle.writing.proofs.NodeLaws.{id-none, id-some}
use Rattle.writing.proofs.names.put_id.Goals as goal

-- Nothing without an id; else its bytes, which are the first ones of the places, between the attribute's name and a quote. Assumes nothing.
pub returns-then-n-eq0 : goal.returns-then-n-eq0
returns-then-n-eq0 c = puts_none (id-none _ (omega arith))

pub slice_bounds-put-end-2 : goal.slice_bounds-put-end-2
slice_bounds-put-end-2 c = omega (arith, text-short c.args.places.now)

pub returns : goal.returns
returns c =
    let p = c.args.places.now in
    puts-as (id-some _ _ (omega arith) (text-part p _ c.length_of-n.ensures)) (puts_then c.put-a.ensures (puts_then c.put-b.ensures c.put.ensures))
