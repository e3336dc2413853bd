use native.Mathlib.Omega.{arith}
use Rattle.xml.proofs.Words.{byte_cut, byte-is, byte-any, byte-other}
use Rattle.xml.proofs.byte.Goals as goal

pub returns-then-s-at : goal.returns-then-s-at
returns-then-s-at c = byte_cut _ _ _ _ (omega arith)

pub returns-then-s-at-2 : goal.returns-then-s-at-2
returns-then-s-at-2 c = byte-is _ _ _ _ (omega arith) c.if-s-at-2.true

pub returns-then-k-eq0 : goal.returns-then-k-eq0
returns-then-k-eq0 c = byte-any _ _ _ _ (omega arith) c.if-s-at-2.false c.if-k-eq0.true

pub returns : goal.returns
returns c = byte-other _ _ _ _ (omega arith) c.if-s-at-2.false c.if-k-eq0.false
