use Rattle.shell_text.proofs.Laws.{no-last-field, last-field}
use Rattle.shell_text.proofs.hex.last_field.Goals as goal

pub returns-then-more : goal.returns-then-more
returns-then-more c =
    no-last-field c.args.line.now c.args.at c.next_field-last.result c.next_field-more.result c.next_field-last.ensures c.next_field-more.ensures
    c.if-more.true

pub returns : goal.returns
returns c =
    last-field c.args.line.now c.args.at c.next_field-last.result c.next_field-more.result c.next_field-last.ensures c.next_field-more.ensures _
    c.decoded_part.result c.if-more.false c.decoded_part.ensures
