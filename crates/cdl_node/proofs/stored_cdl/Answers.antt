use mathlib.Core.Bool.{Bool, cond}
use mathlib.Core.Path.{refl, ap, ◌∙◌}
use Rattle.process_list.specs.declared.CdlStyle.TheVariants.{Fwd, FwdNoClamp}
use Rattle.std.proofs.lemmas.Result.{err_from_is_err_and}
use Rattle.values.proofs.Stored.{cleared-laid}
use Rattle.cdl_node.proofs.Cdls.{cdl-failed, cdl-read, cdl-is}
use Rattle.cdl_node.proofs.stored_cdl.Goals as goal

pub returns-in_err-tag : goal.returns-in_err-tag
returns-in_err-tag c =
    let p = err_from_is_err_and c.from_residual.result c.from_residual.ensures.1 in
    rw (p.1, p.2) (cdl-failed _ _ _ _ _ _ c.in_err-tag.ensures)

pub returns-in_err-end : goal.returns-in_err-end
returns-in_err-end c =
    let p = err_from_is_err_and c.from_residual-in_err-end.result c.from_residual-in_err-end.ensures.1 in
    rw (p.1, p.2) (cdl-read _ _ _ _ c.in_ok-tag.tag _ _ _ _ (λ st h. tt) refl c.in_ok-tag.ensures c.in_err-end.ensures)

pub returns : goal.returns
returns c =
    let z = c.cdl_style-style.ensures ∙ ap (λ (b : Bool). cond b FwdNoClamp Fwd) c.style_is.ensures in
    rw c.finished.ensures (cdl-read _ _ _ _ c.in_ok-tag.tag _ _ _ _ (λ st h. cdl-is _ _ _ _ _ _ _ _ z c.store_all.ensures st h) (cleared-laid _ _ _ _ c.store_all.ensures) c.in_ok-tag.ensures
    c.in_ok-end.ensures)
