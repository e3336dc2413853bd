use native.Mathlib.Omega.{arith}
use Rattle.markup.proofs.Tags.{only-cut, only_one, only_end_lem, only-stranger}
use Rattle.markup.proofs.only_end.Goals as goal

pub returns-then-s-at : goal.returns-then-s-at
returns-then-s-at c = only-cut _ _ _ _ (omega arith)

pub returns-then-s-next : goal.returns-then-s-next
returns-then-s-next c = only_one _ _ _ _ (omega arith) (omega arith)

pub returns-then-b-eq47 : goal.returns-then-b-eq47
returns-then-b-eq47 c = only_end_lem _ _ _ _ (omega arith) _ c.if-b-eq47.true c.end_tag.ensures

pub returns : goal.returns
returns c = only-stranger _ _ _ _ (omega arith) _ c.if-b-eq47.false c.forbidden.ensures
