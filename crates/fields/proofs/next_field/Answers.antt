use mathlib.Core.Path.{◌≡◌}
use mathlib.Core.Bool.{true, false}
use lib.Dec.{eqb}
use native.Mathlib.Omega.{arith}
use Rattle.std.proofs.lemmas.Grind.{common_steps}
use Rattle.fields.specs.Fields.{behind_spaces, before_space}
use Rattle.fields.specs.Laws.{behind_spaces-nil, behind_spaces-cons, before_space-nil, before_space-cons}
use Rattle.fields.proofs.Places.{first-is}
use Rattle.fields.proofs.next_field.Goals as goal

pub returns : goal.returns
returns c =
    let a =
    first-is _ c.args.line.now behind_spaces behind_spaces-nil
    (λ at b l t. let e : eqb b 32 ≡ false = grind (arith, common_steps) in rw (behind_spaces-cons, e))
    (λ at b l t. let e : eqb b 32 ≡ true = grind (arith, common_steps) in rw (behind_spaces-cons, e))
    c.args.at c.first_where-start.result c.first_where-start.ensures in
    let z =
    first-is _ c.args.line.now before_space before_space-nil
    (λ at b l t. let e : eqb b 32 ≡ true = grind (arith, common_steps) in rw (before_space-cons, e))
    (λ at b l t. let e : eqb b 32 ≡ false = grind (arith, common_steps) in rw (before_space-cons, e))
    c.first_where-start.result c.first_where-end.result c.first_where-end.ensures in
    cc
