use mathlib.Core.List.{◌++◌}
use Rattle.text_out.proofs.Laws.{puts-by}
use Rattle.written_form.specs.Written.{range_style_text}
use Rattle.writing.proofs.names.put_range_style.Goals as goal

-- The style of a Range. Assumes nothing.
pub returns-in-Clamp : goal.returns-in-Clamp
returns-in-Clamp c = puts-by (λ k t. range_style_text k ++ t) c.in-Clamp.is c.put.ensures

pub returns-in-NoClamp : goal.returns-in-NoClamp
returns-in-NoClamp c = puts-by (λ k t. range_style_text k ++ t) c.in-NoClamp.is c.put-in-NoClamp.ensures
