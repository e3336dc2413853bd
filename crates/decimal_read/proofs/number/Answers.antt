use mathlib.Core.Path.{◌≡◌, ap, ◌∙◌}
use native.Mathlib.Omega.{arith}
use Rattle.std.specs.Prelude.{Some, None, Err}
use Rattle.decimal.specs.declared.NumberFault.TheVariants.{Malformed}
use Rattle.std.proofs.lemmas.Result.{err_from_is_err_and}
use Rattle.decimal_read.proofs.Read.{read_none, read_wrong, read_some}
use Rattle.decimal_read.proofs.Told.{told}
use Rattle.decimal_read.proofs.number.Goals as goal

-- Assumes nothing.
pub returns-then-whole-part-lt1 : goal.returns-then-whole-part-lt1
returns-then-whole-part-lt1 c = told _ _ (search read_none)

pub returns-in_err-e : goal.returns-in_err-e
returns-in_err-e c =
    let n : c.exponent_at.result ≡ None = grind arith in
    let p = err_from_is_err_and c.from_residual.result c.from_residual.ensures.1 in
    let m : c.in_err-e.field-0.0 ≡ Malformed = grind arith in
    told _ _ (p.1 ∙ ap Err (p.2 ∙ m) ∙ search read_wrong)

pub returns : goal.returns
returns c =
    let s : c.exponent_at.result ≡ Some c.in_ok-e.e = grind arith in
    told _ _ (search read_some)
