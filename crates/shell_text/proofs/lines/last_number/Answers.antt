use Rattle.shell_text.proofs.Laws.{no-last-number, last-number}
use Rattle.shell_text.proofs.lines.last_number.Goals as goal

pub returns-then-more : goal.returns-then-more
returns-then-more c =
    no-last-number c.args.line.now c.args.at c.next_field-field.result c.next_field-more.result c.next_field-field.ensures
    c.next_field-more.ensures c.if-more.true

pub returns : goal.returns
returns c =
    last-number c.args.line.now c.args.at c.next_field-field.result c.next_field-more.result c.next_field-field.ensures c.next_field-more.ensures _ c.number.result
    c.if-more.false c.part.ensures c.number.ensures
