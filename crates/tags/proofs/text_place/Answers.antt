use Rattle.tags.proofs.Lists.{text-stands}
use Rattle.tags.proofs.text_place.Goals as goal

pub returns : goal.returns
returns c = rw (c.unwrap_or.ensures, c.text_named.ensures) (text-stands c.args.s.now c.args.w.now c.args.attributes.now)
