use mathlib.Core.Path.{sym, ◌∙◌}
use Rattle.std.proofs.lemmas.Result.{err_from_is_err_and}
use Rattle.tags.proofs.AttributeLaws.{quote-failed, quote-cut, quote-is, quote-other}
use Rattle.tags.proofs.quote.Goals as goal

pub returns-in_err-p : goal.returns-in_err-p
returns-in_err-p c = let p = err_from_is_err_and c.from_residual.result c.from_residual.ensures.1 in rw (p.1, p.2) (quote-failed _ _ _ tt c.in_err-p.ensures)

pub returns-then-s-p : goal.returns-then-s-p
returns-then-s-p c = quote-cut _ _ _ c.in_ok-p.ensures c.if-s-p.true

pub returns-then-is_quote : goal.returns-then-is_quote
returns-then-is_quote c = quote-is _ _ _ c.in_ok-p.ensures c.if-s-p.false (sym c.is_quote.ensures ∙ c.if-is_quote.true)

pub returns : goal.returns
returns c = quote-other _ _ _ c.in_ok-p.ensures c.if-s-p.false (sym c.is_quote.ensures ∙ c.if-is_quote.false)
