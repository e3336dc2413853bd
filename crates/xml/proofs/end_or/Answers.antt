use mathlib.Core.Path.{sym, ◌∙◌}
use native.Mathlib.Omega.{arith}
use Rattle.xml.proofs.Entities.{end-cut, end-goes-on, end-ended}
use Rattle.xml.proofs.end_or.Goals as goal

pub returns-then-s-at : goal.returns-then-s-at
returns-then-s-at c = end-cut _ _ _ (omega arith)

pub returns-then-is_name_byte : goal.returns-then-is_name_byte
returns-then-is_name_byte c = end-goes-on _ _ _ (omega arith) (sym c.is_name_byte.ensures ∙ c.if-is_name_byte.true)

pub returns : goal.returns
returns c = end-ended _ _ _ (omega arith) (sym c.is_name_byte.ensures ∙ c.if-is_name_byte.false)
