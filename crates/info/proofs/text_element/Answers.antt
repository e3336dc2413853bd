use Rattle.std.proofs.lemmas.Result.{err_from_is_err_and}
use Rattle.xml.specs.Elements.{text_content}
use Rattle.info.proofs.Behind.{rest-open, rest-empty, rest-failed}
use Rattle.info.proofs.Texts.{text-rest}
use Rattle.info.proofs.text_element.Goals as goal

pub returns-in_err-q : goal.returns-in_err-q
returns-in_err-q c =
    let p = err_from_is_err_and c.from_residual.result c.from_residual.ensures.1 in
    rw (p.1, p.2) (text-rest _ _ _ _ (rest-failed (text_content _) _ _ _ c.in_err-q.ensures))

pub returns-in-Open : goal.returns-in-Open
returns-in-Open c =
    text-rest _ _ _ _ (rest-open (text_content _) _ _ _ c.in_ok-q.ensures _ _ c.in-Open.is c.text_content.ensures)

pub returns-in-Empty : goal.returns-in-Empty
returns-in-Empty c = text-rest _ _ _ _ (rest-empty (text_content _) _ _ _ c.in_ok-q.ensures _ c.in-Empty.is)
