use mathlib.Core.Path.{refl}
use native.Mathlib.Omega.{arith}
use Rattle.std.proofs.lemmas.Result.{err_from_is_err_and}
use Rattle.room.specs.Room.{lent}
use Rattle.node_parts.proofs.Held.{held_start, held-child, held-moves, held-failed, held_none}
use Rattle.array_node.proofs.Arrays.{array-start, content-kept, content-whole, content-end}
use borrow.Author.Rules.{rules}
use Rattle.array_node.proofs.array_content.Goals as goal

pub loop-a-init : goal.loop-a-init
loop-a-init c = (refl, refl, held_start _ _ _ _ _ (array-start _ _))

pub returns-in_err-a : goal.returns-in_err-a
returns-in_err-a c =
    let p = err_from_is_err_and c.from_residual.result c.from_residual.ensures.1 in
    rw (p.1, p.2) (held_none _ _ _ _ _ _ c.loop-a.invariant.2 _ _ _ _ c.in_err-a.ensures (content-kept c.args.table _ _ _ _ _ _ _ c.loop-a.invariant.2))

pub array_child-requires : goal.array_child-requires
array_child-requires c = (rw c.in-Start.is at c.in_ok-a.ensures).reads.inside

pub returns-in_err-child-in-Start : goal.returns-in_err-child-in-Start
returns-in_err-child-in-Start c =
    let p = err_from_is_err_and c.from_residual-in_err-child-in-Start.result c.from_residual-in_err-child-in-Start.ensures.1 in
    rw (p.1, p.2) (held-failed _ _ _ _ _ _ c.loop-a.invariant.2 _ _ (rw c.in-Start.is at c.in_ok-a.ensures) _ _ _
    (c.in_err-child-in-Start.ensures (lent c.args.coefficients.now c.args.powers.now)) _ tt)

pub loop-a-smaller : goal.loop-a-smaller
loop-a-smaller c =
    omega (
      arith,
      held-moves _ _ _ _ _ _ c.loop-a.invariant.2 _ _ (rw c.in-Start.is at c.in_ok-a.ensures) _ _ _
          (c.in_ok-child-in-Start.ensures (lent c.args.coefficients.now c.args.powers.now)) _ refl,
    )

pub loop-a-preserved : goal.loop-a-preserved
loop-a-preserved c = (
  search rules,
  search rules,
  held-child _ _ _ _ _ _ c.loop-a.invariant.2 _ _ (rw c.in-Start.is at c.in_ok-a.ensures) _ _ _
      (c.in_ok-child-in-Start.ensures (lent c.args.coefficients.now c.args.powers.now)) _ refl,
)

pub returns-in_err-end-in-End : goal.returns-in_err-end-in-End
returns-in_err-end-in-End c =
    let p = err_from_is_err_and c.from_residual-in_err-end-in-End.result c.from_residual-in_err-end-in-End.ensures.1 in
    rw (p.1, p.2) (content-end c.args.table _ _ _ _ _ _ _ c.loop-a.invariant.2 _ _ c.array_missing.ensures _ _ (λ st z. tt)
    (rw c.in-End.is at c.in_ok-a.ensures) c.in_err-end-in-End.ensures)

pub unwrap-kind-requires : goal.unwrap-kind-requires
unwrap-kind-requires c = content-whole c.args.table _ _ _ _ _ _ _ c.loop-a.invariant.2 _ _ c.array_missing.ensures _ c.in_ok-end-in-End.ensures

pub returns-in-End : goal.returns-in-End
returns-in-End c =
    content-end c.args.table _ _ _ _ _ _ _ c.loop-a.invariant.2 _ _ c.array_missing.ensures _ _ (λ st z. rw c.unwrap-kind.ensures at z)
    (rw c.in-End.is at c.in_ok-a.ensures) c.in_ok-end-in-End.ensures
