use Rattle.tags.specs.Rules.{rules_of}
use Rattle.tags.proofs.Ends.{open-bad, open_done}
use Rattle.tags.proofs.open_end.Goals as goal

pub returns-then-k-ne0 : goal.returns-then-k-ne0
returns-then-k-ne0 c =
    open-bad (rules_of c.args.kind) c.args.s.now c.args.attributes.now c.args.at c.requires _ c.opened-k.ensures c.if-k-ne0.true

pub returns : goal.returns
returns c =
    open_done (rules_of c.args.kind) c.args.s.now c.args.attributes.now c.args.at c.requires _ c.opened-k.ensures c.if-k-ne0.false
