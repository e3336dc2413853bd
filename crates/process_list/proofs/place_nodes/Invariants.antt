use mathlib.Core.Path.{◌≡◌}
use lib.ListN.{take}
use Rattle.process_list.proofs.Laws.{placed_to}
use Rattle.process_list.specs.List.{capped, total}
use Rattle.process_list.proofs.place_nodes.Given as goal

abbrev pub invariant-loop-node : goal.invariant-loop-node
invariant-loop-node l = record {
  at : l.at ≡ capped (total (take l.node-index l.initial.node-items));
  placed : l.node-items ≡ placed_to l.initial.node-items l.node-index;
}
