use mathlib.Core.Path.{refl}
use native.Mathlib.Omega.{arith}
use Rattle.std.proofs.lemmas.Result.{err_from_is_err_and}
use Rattle.element.proofs.Elements.{element-none, element-fault, element-node}
use borrow.Author.Rules.{rules}
use Rattle.element.proofs.element_stored.Goals as goal

pub returns-in_err-e : goal.returns-in_err-e
returns-in_err-e c =
    let p = err_from_is_err_and c.from_residual.result c.from_residual.ensures.1 in
    rw (p.1, p.2) (element-none _ _ _ _ _ c.in_err-e.ensures)

pub returns-in-Carried : goal.returns-in-Carried
returns-in-Carried c = element-node _ _ _ _ c.in-Carried.c _ _ (rw c.in-Carried.is at c.in_ok-e.ensures) c.node_body.ensures

pub returns-in-NotCarried : goal.returns-in-NotCarried
returns-in-NotCarried c = element-fault _ _ _ _ 7 _ refl (λ z. omega arith) (rw c.in-NotCarried.is at c.in_ok-e.ensures)

pub returns-in-Other : goal.returns-in-Other
returns-in-Other c = element-fault _ _ _ _ 5 _ refl (λ z. omega arith) (rw c.in-Other.is at c.in_ok-e.ensures)
