use mathlib.Core.List.{◌++◌}
use Rattle.text_out.proofs.Laws.{puts-by}
use Rattle.shell_text.specs.Show.{method_text}
use Rattle.shell_text.proofs.show.put_method.Goals as goal

pub returns-in-Trilinear : goal.returns-in-Trilinear
returns-in-Trilinear c = puts-by (λ k t. method_text k ++ t) c.in-Trilinear.is c.put.ensures

pub returns-in-Tetrahedral : goal.returns-in-Tetrahedral
returns-in-Tetrahedral c = puts-by (λ k t. method_text k ++ t) c.in-Tetrahedral.is c.put-in-Tetrahedral.ensures
