use mathlib.Core.Path.{◌≡◌}
use Rattle.process_list.specs.List.{first_repeat}
use Rattle.process_list.proofs.Seen.{seen_from}
use Rattle.process_list.proofs.first_repeat.Given as goal

abbrev pub invariant-loop-k : goal.invariant-loop-k
invariant-loop-k l = first_repeat l.nodes ≡ seen_from l.nodes l.k
