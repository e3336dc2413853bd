use mathlib.Core.Path.{refl}
use native.Mathlib.Omega.{arith}
use Rattle.std.proofs.lemmas.Result.{err_from_is_err_and}
use Rattle.room.specs.Room.{lent}
use Rattle.node_parts.proofs.Held.{held_start, held-child, held-moves, held-failed, held_none}
use Rattle.cdl_node.proofs.Inner.{width_three, inner_start, inner-few, inner_ended}
use borrow.Author.Rules.{rules}
use Rattle.cdl_node.proofs.inner_content.Goals as goal

pub loop-a-init : goal.loop-a-init
loop-a-init c = (refl, refl, held_start _ _ _ _ _ (inner_start _ _))

pub returns-in_err-a : goal.returns-in_err-a
returns-in_err-a c =
    let p = err_from_is_err_and c.from_residual.result c.from_residual.ensures.1 in
    rw (p.1, p.2) (held_none _ _ _ _ _ _ c.loop-a.invariant.2 _ _ _ _ c.in_err-a.ensures tt)

pub inner_child-requires : goal.inner_child-requires
inner_child-requires c =
    let reads = (rw c.in-Start.is at c.in_ok-a.ensures).reads in
    (reads.inside.0, reads.inside.1, inner-few c.args.part _ _ _ _ c.loop-a.invariant.2.stands)

pub returns-in_err-i-in-Start : goal.returns-in_err-i-in-Start
returns-in_err-i-in-Start c =
    let p = err_from_is_err_and c.from_residual-in_err-i-in-Start.result c.from_residual-in_err-i-in-Start.ensures.1 in
    rw (p.1, p.2) (held-failed _ _ _ _ _ _ c.loop-a.invariant.2 _ _ (rw c.in-Start.is at c.in_ok-a.ensures) _ _ _
    (c.in_err-i-in-Start.ensures (lent c.args.coefficients.now c.args.powers.now)) _ tt)

pub overflow_add-count : goal.overflow_add-count
overflow_add-count c =
    let part = c.args.part in
    omega (arith, inner-few part _ _ _ _ c.loop-a.invariant.2.stands, c.inner_width-width.ensures, width_three part)

pub loop-a-smaller : goal.loop-a-smaller
loop-a-smaller c =
    omega (
      arith,
      held-moves _ _ _ _ _ _ c.loop-a.invariant.2 _ _ (rw c.in-Start.is at c.in_ok-a.ensures) _ _ _
          (c.in_ok-i-in-Start.ensures (lent c.args.coefficients.now c.args.powers.now)) _ refl,
    )

pub loop-a-preserved : goal.loop-a-preserved
loop-a-preserved c = (
  search rules,
  search rules,
  rw c.inner_width-width.ensures (held-child _ _ _ _ _ _ c.loop-a.invariant.2 _ _ (rw c.in-Start.is at c.in_ok-a.ensures) _ _ _
      (c.in_ok-i-in-Start.ensures (lent c.args.coefficients.now c.args.powers.now)) _ refl),
)

pub returns-in-End : goal.returns-in-End
returns-in-End c =
    inner_ended c.args.part _ _ _ _ _ _ c.loop-a.invariant.2 _ (rw c.in-End.is at c.in_ok-a.ensures) _ c.inner_missing.ensures _ c.inner_end.ensures
