use Rattle.xml.specs.Xml.{spaces}
use Rattle.xml.proofs.spaces.Goals as goal

pub returns : goal.returns
unfolding spaces
returns c = c.span.ensures _ (λ b r h e. e)
