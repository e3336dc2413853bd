use Rattle.std.proofs.Common.{◌≡◌, Bool, ℕ, ◌<◌}
use Rattle.xml.specs.CodeLaws.{SpanInv}
use Rattle.xml.proofs.span.Given as goal

abbrev pub invariant-loop-i : goal.invariant-loop-i
invariant-loop-i g l = (test : ℕ → Bool) → ((b : ℕ) (r : Bool) → b < 256 → goal.P-post g l.passes b r → r ≡ test b) → SpanInv test l.s l.at l.i
