use native.Mathlib.Omega.{arith}
use borrow.Author.Rules.{rules}
use Rattle.std.proofs.KnownBytes.{Consumes-nil}
use Rattle.bytes_in.proofs.Laws.{consumes-more}
use Rattle.bytes_in.proofs.read_full.Goals as goal

pub loop-held-init : goal.loop-held-init
loop-held-init g c = (omega arith, Consumes-nil _)

pub returns-then-n-eq0-clause-bytes : goal.returns-then-n-eq0-clause-bytes
returns-then-n-eq0-clause-bytes g c =
    consumes-more _ _ _ _ _ c.loop-held.held _ c.in_ok-n.n _ c.loop-held.invariant.0 c.in_ok-n.ensures.bound.0 (omega arith) c.loop-held.invariant.1
    c.in_ok-n.ensures.bytes.0

pub loop-held-preserved : goal.loop-held-preserved
loop-held-preserved g c = (
  search rules,
  consumes-more _ _ _ _ _ c.loop-held.held _ c.in_ok-n.n _ c.loop-held.invariant.0 c.in_ok-n.ensures.bound.0 (omega arith) c.loop-held.invariant.1
      c.in_ok-n.ensures.bytes.0,
)
