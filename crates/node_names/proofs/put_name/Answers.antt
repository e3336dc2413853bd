use mathlib.Core.List.{◌++◌}
use mathlib.Core.Logic.{inl, inr}
use Rattle.text_out.proofs.Laws.{puts-by}
use Rattle.written_form.specs.Written.{name_text}
use Rattle.node_names.proofs.put_name.Goals as goal

-- The name of each kind. Assumes nothing.
pub returns-in-Matrix : goal.returns-in-Matrix
returns-in-Matrix c = puts-by (λ k t. name_text k ++ t) c.in-Matrix.is c.put.ensures

pub returns-in-Lut1d : goal.returns-in-Lut1d
returns-in-Lut1d c = puts-by (λ k t. name_text k ++ t) c.in-Lut1d.is c.put-in-Lut1d.ensures

pub returns-in-Range : goal.returns-in-Range
returns-in-Range c = elim c.in-Range.is [
  | inl w ↦ puts-by (λ k t. name_text k ++ t) w.1 c.put-in-Range.ensures
  | inr w ↦ puts-by (λ k t. name_text k ++ t) w.1 c.put-in-Range.ensures
]

pub returns-in-Cdl : goal.returns-in-Cdl
returns-in-Cdl c = puts-by (λ k t. name_text k ++ t) c.in-Cdl.is c.put-in-Cdl.ensures

pub returns-in-Lut3d : goal.returns-in-Lut3d
returns-in-Lut3d c = puts-by (λ k t. name_text k ++ t) c.in-Lut3d.is c.put-in-Lut3d.ensures
