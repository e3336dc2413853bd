use native.Mathlib.Omega.{arith}
use borrow.Author.Tests.{ne_eqb}
use Rattle.cdl_node.proofs.Inner.{empty_name}
use Rattle.cdl_node.proofs.is_next_sop.Goals as goal

pub returns-in_default : goal.returns-in_default
returns-in_default c =
    rw (ne_eqb c.args.count 0 (λ e. omega arith), ne_eqb c.args.count 3 (λ e. omega arith), ne_eqb c.args.count 6 (λ e. omega arith), c.is_empty.ensures) (empty_name _)
