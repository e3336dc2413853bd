use mathlib.Core.List.{◌++◌}
use lib.ListN.{drop}
use Rattle.text_out.specs.Output.{Goes}
use Rattle.text_out.proofs.put.Given as goal

-- What is left are the bytes of the text from index b-index on.
abbrev pub invariant-loop-b : goal.invariant-loop-b
invariant-loop-b l = Goes (λ t. l.text ++ t) (λ t. drop l.b-index l.text ++ t) l.at l.initial.out l.out l.held
