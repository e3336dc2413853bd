use native.Mathlib.Omega.{arith}
use mathlib.Core.Path.{◌≡◌}
use lib.ListN.{length}
use Rattle.scanning.specs.Steps.{scan}
use Rattle.tags.proofs.Lists.{sixteen, fewer}
use Rattle.tags.proofs.name_fault.Goals as goal

pub returns-then-named : goal.returns-then-named
returns-then-named c = search scan

pub returns-then-attributes-ge16 : goal.returns-then-attributes-ge16
returns-then-attributes-ge16 c =
    let z : length c.args.attributes.now.held ≡ 16 = search arith in
    rw (← c.named.ensures, c.if-named.false, sixteen c.args.s.now c.args.attributes.now z c.if-attributes-ge16.true)

pub returns : goal.returns
returns c =
    let z : length c.args.attributes.now.held ≡ 16 = search arith in
    rw (← c.named.ensures, c.if-named.false, fewer c.args.s.now c.args.attributes.now z c.if-attributes-ge16.false, c.name_rule.ensures)
