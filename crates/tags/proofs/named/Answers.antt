use Rattle.tags.proofs.Lists.{is-named}
use Rattle.tags.proofs.named.Goals as goal

pub returns : goal.returns
returns c = rw (c.is_some.ensures, c.text_named.ensures) (is-named c.args.s.now c.args.w.now c.args.attributes.now)
