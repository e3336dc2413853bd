use mathlib.Core.Path.{◌≡◌}
use lib.ListN.{take, drop}
use Rattle.process_list.specs.List.{total}
use Rattle.valid.specs.Valid.{gapless}
use Rattle.valid.proofs.is_gapless.Given as goal

abbrev pub invariant-loop-node : goal.invariant-loop-node
invariant-loop-node l = record {
  at : l.at ≡ total (take l.node-index l.nodes);
  rest : gapless 0 l.nodes ≡ gapless l.at (drop l.node-index l.nodes);
}
