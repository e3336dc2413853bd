use mathlib.Core.Path.{◌≡◌, sym, ◌∙◌}
use mathlib.Core.Bool.{true, false}
use Rattle.std.proofs.lemmas.Result.{err_from_is_err_and}
use native.Mathlib.Omega.{arith}
use Rattle.xml.proofs.Texts.{text-end, text-stop, text-more, text-and, text-failed}
use Rattle.values.proofs.Tokens.{not-less, token-bytes, token-failed}
use Rattle.values.proofs.token.Goals as goal

pub returns-then-ends_token : goal.returns-then-ends_token
returns-then-ends_token c =
    let q : _ ≡ true = sym c.ends_token.ensures ∙ c.if-ends_token.true in
    token-bytes _ _ _ (text-stop _ _ _ _ c.loop-i.invariant (omega arith) q) q

pub returns-in_err-i : goal.returns-in_err-i
returns-in_err-i c =
    let p = err_from_is_err_and c.from_residual.result c.from_residual.ensures.1 in
    let q : _ ≡ false = sym c.ends_token.ensures ∙ c.if-ends_token.false in
    rw (p.1, p.2) (token-failed _ _ _ (text-failed _ _ _ _ c.loop-i.invariant (omega arith) q (not-less _ q) c.if-b-eq38.true _ tt c.in_err-i.ensures) tt)

pub loop-i-preserved-then-b-eq38 : goal.loop-i-preserved-then-b-eq38
loop-i-preserved-then-b-eq38 c =
    let q : _ ≡ false = sym c.ends_token.ensures ∙ c.if-ends_token.false in
    text-and _ _ _ _ c.loop-i.invariant (omega arith) q (not-less _ q) c.if-b-eq38.true _
    c.in_ok-i.ensures

pub loop-i-preserved : goal.loop-i-preserved
loop-i-preserved c =
    let q : _ ≡ false = sym c.ends_token.ensures ∙ c.if-ends_token.false in
    text-more _ _ _ _ c.loop-i.invariant (omega arith) q (not-less _ q) c.if-b-eq38.false

pub returns : goal.returns
returns c = token-bytes _ _ _ (text-end _ _ _ _ c.loop-i.invariant (omega arith)) tt
