use Rattle.shell_text.proofs.Laws.{by_itself, not_itself}
use Rattle.shell_text.specs.Words.{bits_text, word_text}
use Rattle.text_out.proofs.Laws.{puts-by, puts_then}
use mathlib.Core.List.{◌++◌}
use mathlib.Core.Path.{sym}
use Rattle.shell_text.proofs.words.put_word.Goals as goal

pub returns-then-x : goal.returns-then-x
unfolding word_text
returns-then-x c =
    puts_then c.put-a.ensures
    (puts-by (λ n t. bits_text n ++ t) (sym (not_itself _ c.if-x.true)) c.put_bits.ensures)

pub float_to_bits-x : goal.float_to_bits-x
float_to_bits-x c = by_itself _ c.if-x.false

pub returns : goal.returns
unfolding word_text
returns c = puts_then c.put-a.ensures c.put_bits-2.ensures
