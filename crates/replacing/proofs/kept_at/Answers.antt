use mathlib.Core.Path.{sym, ◌∙◌}
use native.Mathlib.Omega.{arith}
use Rattle.replacing.proofs.Calls.{kept-invalid, kept-zero, kept-beyond, kept-there}
use Rattle.replacing.proofs.kept_at.Goals as goal
use Rattle.replacing.proofs.kept_at.Goals.{then-k-eq0-via-then-k-eq0, then-k-eq0-via-else-k-eq0+then-count-k}

pub returns-then-not-valid : goal.returns-then-not-valid
returns-then-not-valid c = kept-invalid _ _ _ (sym c.valid.ensures ∙ c.if-not-valid.true)

pub returns-then-k-eq0 : goal.returns-then-k-eq0
returns-then-k-eq0 c =
    elim c.then-k-eq0.branch [
      | then-k-eq0-via-then-k-eq0 w ↦ kept-zero _ _ _ (sym c.valid.ensures ∙ c.if-not-valid.false) w.if-k-eq0.true
      | then-k-eq0-via-else-k-eq0+then-count-k w ↦
          kept-beyond _ _ _ (sym c.valid.ensures ∙ c.if-not-valid.false) (omega (arith, c.held-count.ensures.nodes, w.if-count-k.true))
    ]

pub returns : goal.returns
returns c =
    kept-there _ _ _ (sym c.valid.ensures ∙ c.if-not-valid.false) c.if-k-eq0.false (omega (arith, c.held-count.ensures.nodes, c.if-count-k.false)) c.held-count.ensures.array _
    c.get-node.ensures
