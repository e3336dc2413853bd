use mathlib.Core.Path.{sym, ap, ◌∙◌, refl}
use Prim.Native.Nat.{ℕ, ◌+◌}
use native.Mathlib.Omega.{arith}
use lib.ListN.{drop}
use Rattle.process_list.specs.List.{total}
use Rattle.valid.specs.Valid.{gapless}
use Rattle.valid.proofs.Laws.{gapless-fails, gapless-goes-on, gapless-ends, count-goes-on}
use Rattle.valid.proofs.is_gapless.Goals as goal

pub loop-node-init : goal.loop-node-init
unfolding total
loop-node-init c = record { at = refl; rest = refl }

pub returns-then-node-at : goal.returns-then-node-at
returns-then-node-at c =
    let v = c.loop-node.invariant in
    sym (v.rest ∙ gapless-fails c.args.nodes.now c.loop-node.node-index c.loop-node.at _ (omega arith) c.if-node-at.true)

pub loop-node-preserved : goal.loop-node-preserved
loop-node-preserved c =
    let v = c.loop-node.invariant in
    let ns = c.args.nodes.now in
    let i = c.loop-node.node-index in
    let r = count-goes-on ns i c.loop-node.at _ (omega arith) v.at c.requires _ c.counted-at.ensures in
    record {
      at = r.0;
      rest = v.rest ∙ gapless-goes-on ns i c.loop-node.at _ (omega arith) c.if-node-at.false ∙ ap (λ (n : ℕ). gapless n (drop (i + 1) ns)) (sym r.1);
    }

pub returns : goal.returns
returns c = sym (c.loop-node.invariant.rest ∙ gapless-ends c.args.nodes.now c.loop-node.node-index c.loop-node.at (omega arith))
