use mathlib.Core.Path.{◌≡◌}
use Rattle.markup.proofs.Known.{settled-none, settled_at, settled-cut}
use Rattle.xml.specs.declared.Stop.TheVariants.{Cut}
use Rattle.markup.proofs.settled.Goals as goal

pub returns-then-v-eq0 : goal.returns-then-v-eq0
returns-then-v-eq0 c = settled-none _ _ _ c.if-v-eq0.true

pub returns-in-Ok : goal.returns-in-Ok
returns-in-Ok c = rw c.in-Ok.is (settled_at _ _ _ c.if-v-eq0.false)

pub returns-in-Err-Cut : goal.returns-in-Err-Cut
returns-in-Err-Cut c =
    let q : c.in-Err-Cut.field-0 ≡ Cut = rw c.in-Err-Cut.is at c.in-Err-Cut.field-0-is in rw (c.in-Err-Cut.is, q) (settled-cut c.args.at c.args.v)
