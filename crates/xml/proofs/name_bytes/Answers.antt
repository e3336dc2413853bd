use Rattle.xml.proofs.name_bytes.Goals as goal

pub returns : goal.returns
returns c = c.span.ensures _ (λ b r h e. e)
