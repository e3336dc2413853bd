use Rattle.std.proofs.lemmas.Result.{err_from_is_err_and}
use Rattle.xml.specs.Elements.{info_content, info_element}
use Rattle.info.proofs.Behind.{rest-open, rest-empty, rest-failed}
use Rattle.info.proofs.Contents.{info-rest}
use Rattle.info.proofs.info.Goals as goal

pub returns-in_err-q : goal.returns-in_err-q
returns-in_err-q c =
    let p = err_from_is_err_and c.from_residual.result c.from_residual.ensures.1 in
    rw (p.1, p.2) (info-rest _ _ _ (rest-failed (info_content (info_element 16) _) _ _ _ c.in_err-q.ensures))

pub returns-in-Open : goal.returns-in-Open
returns-in-Open c =
    info-rest _ _ _ (rest-open (info_content (info_element 16) _) _ _ _ c.in_ok-q.ensures _ _ c.in-Open.is c.content.ensures)

pub returns-in-Empty : goal.returns-in-Empty
returns-in-Empty c = info-rest _ _ _ (rest-empty (info_content (info_element 16) _) _ _ _ c.in_ok-q.ensures _ c.in-Empty.is)
