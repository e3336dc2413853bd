use mathlib.Core.Path.{◌≡◌}
use lib.ListN.{take}
use Rattle.process_list.specs.List.{capped, total}
use Rattle.process_list.proofs.used.Given as goal

abbrev pub invariant-loop-node : goal.invariant-loop-node
invariant-loop-node l = l.sum ≡ capped (total (take l.node-index l.node-items))
