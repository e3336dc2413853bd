use mathlib.Core.Path.{◌≡◌, ap, ◌∙◌}
use mathlib.Core.List.{List, ◌++◌}
use lib.ListN.{take, drop}
use Rattle.process_list.specs.declared.Node.{Node}
use native.Mathlib.Omega.{arith}
use Rattle.process_list.specs.List.{with_position, place_from}
use Rattle.process_list.proofs.Laws.{place_none, place-all, used-none, place-count, place-step}
use Rattle.process_list.proofs.place_nodes.Goals as goal

pub loop-node-init : goal.loop-node-init
loop-node-init c =
    let ns = take c.args.count c.args.nodes.now in
    record { at = used-none ns; placed = place_none ns }

pub loop-node-preserved : goal.loop-node-preserved
unfolding with_position
loop-node-preserved c =
    let ns = take c.args.count c.args.nodes.now in
    let i = c.loop-node.node-index in
    let v = c.loop-node.invariant in
    record {
      at = place-count c.loop-node.node-items ns i c.loop-node.at _ _ (omega arith) v.placed v.at c.counted-at.ensures;
      placed = place-step c.loop-node.node-items ns i c.loop-node.at _ (omega arith) v.placed v.at c.requires.1;
    }

pub returns : goal.returns
returns c =
    let ns = take c.args.count c.args.nodes.now in
    let e : c.loop-node.node-items ≡ place_from 0 ns = c.loop-node.invariant.placed ∙ place-all ns c.loop-node.node-index (omega arith) in
    ap (λ (l : List Node). l ++ drop c.args.count c.args.nodes.now) e
