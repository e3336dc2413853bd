use native.Mathlib.Omega.{arith}
use Rattle.std.proofs.lemmas.Grind.{common_steps}
use Rattle.fields.proofs.Places.{first-told}
use Rattle.fields.proofs.first_byte.Goals as goal

pub returns : goal.returns
returns c = first-told c.first_where.ensures (λ k t l h. grind (arith, common_steps))
