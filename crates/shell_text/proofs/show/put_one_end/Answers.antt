use mathlib.Core.List.{◌++◌}
use Rattle.text_out.proofs.Laws.{puts-by}
use Rattle.shell_text.specs.Show.{one_end_text}
use Rattle.shell_text.proofs.show.put_one_end.Goals as goal

pub returns-in-Minimum : goal.returns-in-Minimum
returns-in-Minimum c = puts-by (λ k t. one_end_text k ++ t) c.in-Minimum.is c.put.ensures

pub returns-in-Maximum : goal.returns-in-Maximum
returns-in-Maximum c = puts-by (λ k t. one_end_text k ++ t) c.in-Maximum.is c.put-in-Maximum.ensures
