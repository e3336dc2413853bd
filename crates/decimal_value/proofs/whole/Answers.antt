use Rattle.std.proofs.Common.{w64, SFits, rules}
use mir.ValLaws.{to_z-of_z}
use Rattle.decimal_value.proofs.Signs.{in-float}
use Rattle.decimal_value.proofs.whole.Goals as goal

-- A cast where it loses nothing, the nearest f64 elsewhere. Assumes nothing.
pub int_to_float-result : goal.int_to_float-result
int_to_float-result c = in-float _ c.if-n-geminus9007199254740992.true c.if-n-le9007199254740992.true

pub returns : goal.returns
returns c =
    let f : SFits w64 c.args.n = search rules in
    rw (to_z-of_z w64 c.args.n f) at c.nearest_i64_to_f64.ensures
