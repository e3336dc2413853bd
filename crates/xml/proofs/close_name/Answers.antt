use native.Mathlib.Omega.{arith}
use Rattle.xml.proofs.Names.{close-cut, close-name}
use Rattle.xml.proofs.close_name.Goals as goal

pub returns-then-s-at : goal.returns-then-s-at
returns-then-s-at c = close-cut _ _ (omega arith)

pub returns : goal.returns
returns c = close-name _ _ (omega arith) _ c.open_name.ensures
