use borrow.Author.Rules.{rules}
use native.Mathlib.Omega.{arith}
use mir.Syntax.{w8, w64}
use mir.Val.{SFits}
use mir.ValLaws.{to_z-of_z}
use Rattle.std.proofs.lemmas.Grind.{common_steps}
use Rattle.decimal_write.specs.Written.{is_normal}
use Rattle.decimal_write.proofs.Machine.{size-kept}
use Rattle.decimal_write.proofs.is_normal.Goals as goal

-- The coefficient's last digit, and zero apart. Assumes nothing.
pub returns-then-c-ne0 : goal.returns-then-c-ne0
unfolding is_normal
returns-then-c-ne0 c =
    let f : SFits w64 c.args.d.coefficient = search rules in
    let e = size-kept _ f c.size-c.ensures in
    grind (arith, common_steps)

pub returns-then-c-eq0 : goal.returns-then-c-eq0
unfolding is_normal
returns-then-c-eq0 c =
    let d = c.args.d in
    let f : SFits w64 d.coefficient = search rules in
    let g : SFits w8 d.power = search rules in
    let e = size-kept _ f c.size-c.ensures in
    grind (arith, common_steps, to_z-of_z)

pub returns-else-c-eq0 : goal.returns-else-c-eq0
unfolding is_normal
returns-else-c-eq0 c =
    let f : SFits w64 c.args.d.coefficient = search rules in
    let e = size-kept _ f c.size-c.ensures in
    grind (arith, common_steps)
