use Rattle.markup.specs.Next.{NextReads}
use Rattle.describing.proofs.Laws.{when-ok, when-none, first-open, first-end, first-none}
use Rattle.describing.proofs.first_text.Goals as goal

pub returns-in_err-a : goal.returns-in_err-a
returns-in_err-a c =
    rw c.from_residual.ensures (when-none (NextReads c.args.file.now c.args.at) _ (λ h b. first-none _ _ _ _ b) _ c.in_err-a.ensures.value c.next_tag.ensures)

pub returns-in-Start : goal.returns-in-Start
returns-in-Start c =
    rw (first-open _ _ _ _ (rw (when-ok _ _ c.in_ok-a.ensures.value, c.in-Start.is) at c.next_tag.ensures)) c.child_text.ensures

pub returns-in-End : goal.returns-in-End
returns-in-End c = first-end _ _ _ (rw (when-ok _ _ c.in_ok-a.ensures.value, c.in-End.is) at c.next_tag.ensures)
