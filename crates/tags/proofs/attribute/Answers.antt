use native.Mathlib.Omega.{arith}
use Rattle.std.proofs.lemmas.Result.{err_from_is_err_and}
use Rattle.tags.proofs.AttributeLaws.{attribute-named, attribute-failed}
use Rattle.tags.proofs.attribute.Goals as goal

pub attribute_named-requires : goal.attribute_named-requires
attribute_named-requires c = (omega (arith, c.in_ok-e.ensures.inside), c.in_ok-e.ensures.inside.1)

pub returns : goal.returns
returns c = attribute-named _ _ _ _ _ _ c.in_ok-e.ensures c.attribute_named.ensures

pub returns-in_err-e : goal.returns-in_err-e
returns-in_err-e c =
    let p = err_from_is_err_and c.from_residual.result c.from_residual.ensures.1 in rw (p.1, p.2) (attribute-failed _ _ _ _ _ c.in_err-e.ensures)
