use mathlib.Core.Path.{ap, ◌∙◌}
use native.Mathlib.Omega.{arith}
use Rattle.process_list.proofs.Laws.{used-none, used_turn, used_all}
use Rattle.process_list.specs.List.{capped, total}
use Rattle.process_list.proofs.used.Goals as goal

pub loop-node-init : goal.loop-node-init
loop-node-init c = used-none c.nodes_of-node-items.result.now

pub loop-node-preserved : goal.loop-node-preserved
loop-node-preserved c = used_turn c.nodes_of-node-items.result.now _ _ _ _ (omega arith) c.loop-node.invariant c.counted-sum.ensures

pub returns : goal.returns
returns c =
    c.loop-node.invariant ∙ ap capped (used_all _ c.loop-node.node-index (omega arith) ∙ ap total c.nodes_of-node-items.ensures)
