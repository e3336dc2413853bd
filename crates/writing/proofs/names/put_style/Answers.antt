use mathlib.Core.List.{◌++◌}
use mathlib.Core.Logic.{inl, inr}
use Rattle.text_out.proofs.Laws.{puts-by, goes-start}
use Rattle.written_form.specs.Written.{style_text}
use Rattle.writing.proofs.names.put_style.Goals as goal

-- The style of each kind that has one (a Range with one end always clamps), and the method of a LUT3D. Assumes nothing.
pub returns-in-Matrix : goal.returns-in-Matrix
returns-in-Matrix c = elim c.in-Matrix.is [
  | inl w ↦ puts-by (λ k t. style_text k ++ t) w.1 (goes-start _ _ _)
  | inr w ↦ puts-by (λ k t. style_text k ++ t) w.2 (goes-start _ _ _)
]

pub returns-in-Range : goal.returns-in-Range
returns-in-Range c = puts-by (λ k t. style_text k ++ t) c.in-Range.is c.put_range_style.ensures

pub returns-in-Cdl : goal.returns-in-Cdl
returns-in-Cdl c = puts-by (λ k t. style_text k ++ t) c.in-Cdl.is c.put_cdl_style.ensures

pub returns-in-Lut3d : goal.returns-in-Lut3d
returns-in-Lut3d c = puts-by (λ k t. style_text k ++ t) c.in-Lut3d.is c.put_interpolation.ensures

pub returns-in-OneEnd : goal.returns-in-OneEnd
returns-in-OneEnd c = puts-by (λ k t. style_text k ++ t) c.in-OneEnd.is c.put_range_style-in-OneEnd.ensures
