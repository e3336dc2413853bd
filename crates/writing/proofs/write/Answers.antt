use mathlib.Core.Path.{refl, sym, ◌∙◌}
use Rattle.room.specs.Room.{lent}
use Rattle.writing.proofs.Answers.{ends-16, ends-18, ends-17, ends-written}
use Rattle.writing.proofs.write.Goals as goal

-- 16, 18, 17, else the text. Assumes nothing.
pub returns-then-not-valid : goal.returns-then-not-valid
returns-then-not-valid c =
    let a = c.args in
    let r = ends-16 a.list (lent a.coefficients.now a.powers.now) a.id.now a.out.now _ (sym c.valid.ensures ∙ c.if-not-valid.true) refl in
    record { value = r.0; out_after = r.1 }

pub returns-then-not-id_right : goal.returns-then-not-id_right
returns-then-not-id_right c =
    let a = c.args in
    let m = lent a.coefficients.now a.powers.now in
    let v = sym c.valid.ensures ∙ c.if-not-valid.false in
    let r = ends-18 a.list m a.id.now a.out.now v _ (sym c.id_right.ensures ∙ c.if-not-id_right.true) refl in
    record { value = r.0; out_after = r.1 }

pub text_length-length-requires : goal.text_length-length-requires
text_length-length-requires c = (sym c.valid.ensures ∙ c.if-not-valid.false)

pub returns-then-out-length : goal.returns-then-out-length
returns-then-out-length c =
    let a = c.args in
    let m = lent a.coefficients.now a.powers.now in
    let v = sym c.valid.ensures ∙ c.if-not-valid.false in
    let i = sym c.id_right.ensures ∙ c.if-not-id_right.false in
    let r = ends-17 a.list m a.id.now a.out.now v i _ _ c.text_length-length.ensures c.if-out-length.true refl in
    record { value = r.0; out_after = r.1 }

pub put_list-requires : goal.put_list-requires
put_list-requires c = (sym c.valid.ensures ∙ c.if-not-valid.false)

pub returns : goal.returns
returns c =
    let a = c.args in
    let m = lent a.coefficients.now a.powers.now in
    let v = sym c.valid.ensures ∙ c.if-not-valid.false in
    let i = sym c.id_right.ensures ∙ c.if-not-id_right.false in
    let r = ends-written a.list m a.id.now a.out.now v i _ _ _ c.text_length-length.ensures c.if-out-length.false
    c.put_list.ensures in
    record { value = r.0; out_after = r.1 }
