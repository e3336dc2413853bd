use mathlib.Core.List.{◌++◌}
use Rattle.text_out.proofs.Laws.{puts-by}
use Rattle.written_form.specs.Written.{interpolation_text}
use Rattle.writing.proofs.names.put_interpolation.Goals as goal

-- The method of a LUT3D. Assumes nothing.
pub returns-in-Trilinear : goal.returns-in-Trilinear
returns-in-Trilinear c = puts-by (λ k t. interpolation_text k ++ t) c.in-Trilinear.is c.put.ensures

pub returns-in-Tetrahedral : goal.returns-in-Tetrahedral
returns-in-Tetrahedral c = puts-by (λ k t. interpolation_text k ++ t) c.in-Tetrahedral.is c.put-in-Tetrahedral.ensures
