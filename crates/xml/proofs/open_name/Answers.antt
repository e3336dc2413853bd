use native.Mathlib.Omega.{arith}
use Rattle.xml.proofs.Names.{open-cut, open-name}
use Rattle.xml.proofs.open_name.Goals as goal

pub returns-then-s-at : goal.returns-then-s-at
returns-then-s-at c = open-cut _ _ (omega arith)

pub returns : goal.returns
returns c = open-name _ _ (omega arith) _ c.name.ensures
