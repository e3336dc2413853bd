use native.Mathlib.Omega.{arith}
use borrow.Author.Tests.{ne_eqb}
use Rattle.values.specs.Code.{rule_of}
use Rattle.cdl_node.proofs.inner_rule.Goals as goal

pub returns-in-0 : goal.returns-in-0
unfolding rule_of
returns-in-0 c = rw (c.in-Sop.is, c.in-0.is)

pub returns-in-3 : goal.returns-in-3
unfolding rule_of
returns-in-3 c = rw (c.in-Sop.is, c.in-3.is)

pub returns-in_default : goal.returns-in_default
unfolding rule_of
returns-in_default c = rw (c.in-Sop.is, ne_eqb c.args.count 0 (λ e. omega arith), ne_eqb c.args.count 3 (λ e. omega arith))

pub returns-in-Sat : goal.returns-in-Sat
unfolding rule_of
returns-in-Sat c = rw c.in-Sat.is
