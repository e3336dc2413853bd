use Rattle.text_out.proofs.Laws.{puts-by}
use Rattle.shell_text.specs.Show.{one_of_two}
use mathlib.Core.List.{◌++◌}
use Rattle.shell_text.proofs.show.put_either.Goals as goal

pub returns-then-first : goal.returns-then-first
unfolding one_of_two
returns-then-first c =
    puts-by (λ b t. one_of_two b c.args.this.now
    c.args.other.now ++ t) c.if-first.true c.put.ensures

pub returns : goal.returns
unfolding one_of_two
returns c =
    puts-by (λ b t. one_of_two b c.args.this.now
    c.args.other.now ++ t) c.if-first.false c.put-2.ensures
