use Rattle.std.proofs.Common.{sym, ◌∙◌, arith}
use Rattle.xml.specs.CodeLaws.{span_more}
use Rattle.xml.proofs.span.Goals as goal

pub loop-i-preserved : goal.loop-i-preserved
loop-i-preserved g c = λ test h. span_more test _ _ _ (c.loop-i.invariant test h) (omega arith) (sym (h _ _ (search arith) c.passes.ensures) ∙ c.if-not-passes.false)
