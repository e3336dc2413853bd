use native.Mathlib.Omega.{arith}
use Rattle.values.proofs.Stored.{laid_from}
use Rattle.node_parts.proofs.Smalls.{store-start, store-more, store-end}
use Rattle.node_parts.proofs.store_all.Goals as goal

pub loop-j-init : goal.loop-j-init
loop-j-init c = store-start _ _ _ _ c.length-j-end.ensures

pub loop-j-preserved : goal.loop-j-preserved
loop-j-preserved c =
    store-more _ _ _ _ _ _ _ _ c.loop-j.invariant (omega arith) c.number_at-d.ensures c.store.ensures

pub shape_of-coefficients : goal.shape_of-coefficients
shape_of-coefficients c = (laid_from _ _ _ _ c.loop-j.invariant.room).coefficients.size

pub shape_of-powers : goal.shape_of-powers
shape_of-powers c = (laid_from _ _ _ _ c.loop-j.invariant.room).powers.size

pub returns : goal.returns
returns c = store-end _ _ _ _ _ _ c.loop-j.invariant (omega arith)
