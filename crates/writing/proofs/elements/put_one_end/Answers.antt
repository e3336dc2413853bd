use Rattle.room.specs.Room.{lent}
use Rattle.valid.specs.Valid.{numbers_at}
use Rattle.text_out.proofs.Laws.{puts-by}
use Rattle.written_form.proofs.Tail.{one_end_text}
use Rattle.writing.proofs.elements.put_one_end.Goals as goal

-- By the end of the Range. Assumes nothing.
pub returns-in-Minimum : goal.returns-in-Minimum
unfolding one_end_text
returns-in-Minimum c =
    let a = c.args in
    puts-by (λ end. one_end_text end (numbers_at (lent a.coefficients.now a.powers.now) a.from 2)) c.in-Minimum.is c.put_pair.ensures

pub returns-in-Maximum : goal.returns-in-Maximum
unfolding one_end_text
returns-in-Maximum c =
    let a = c.args in
    puts-by (λ end. one_end_text end (numbers_at (lent a.coefficients.now a.powers.now) a.from 2)) c.in-Maximum.is c.put_pair-in-Maximum.ensures
