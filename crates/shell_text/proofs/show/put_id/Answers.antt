use native.Mathlib.Omega.{arith}
use Rattle.ids.proofs.Laws.{text-short, text-part}
use Rattle.text_out.proofs.Laws.{puts-as}
use Rattle.shell_text.proofs.Laws.{shown-none, shown-some}
use Rattle.shell_text.proofs.show.put_id.Goals as goal

-- `-`, or the digits of the id's bytes, which are the first ones of the places. Assumes nothing.
pub returns-then-n-eq0 : goal.returns-then-n-eq0
returns-then-n-eq0 c = puts-as (shown-none _ (omega arith)) c.put.ensures

pub slice_bounds-put_hex-end : goal.slice_bounds-put_hex-end
slice_bounds-put_hex-end c = omega (arith, text-short c.args.places.now)

pub returns : goal.returns
returns c =
    let p = c.args.places.now in
    puts-as (shown-some _ _ (omega arith) (text-part p _ c.length_of-n.ensures)) c.put_hex.ensures
