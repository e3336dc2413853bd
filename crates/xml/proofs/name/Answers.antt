use mathlib.Core.Path.{sym, ◌∙◌}
use native.Mathlib.Omega.{arith}
use Rattle.xml.proofs.Names.{name-cut, name-first, name-other}
use Rattle.xml.proofs.name.Goals as goal

pub returns-then-s-at : goal.returns-then-s-at
returns-then-s-at c = name-cut _ _ (omega arith)

pub returns-then-is_letter : goal.returns-then-is_letter
returns-then-is_letter c = name-first _ _ (omega arith) _ (sym c.is_letter.ensures ∙ c.if-is_letter.true) c.name_bytes.ensures

pub returns : goal.returns
returns c = name-other _ _ (omega arith) (sym c.is_letter.ensures ∙ c.if-is_letter.false)
