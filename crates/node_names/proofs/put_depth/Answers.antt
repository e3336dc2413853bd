use mathlib.Core.List.{◌++◌}
use Rattle.text_out.proofs.Laws.{puts-by}
use Rattle.written_form.specs.Written.{depth_text}
use Rattle.node_names.proofs.put_depth.Goals as goal

-- The text of each depth. Assumes nothing.
pub returns-in-I8 : goal.returns-in-I8
returns-in-I8 c = puts-by (λ k t. depth_text k ++ t) c.in-I8.is c.put.ensures

pub returns-in-I10 : goal.returns-in-I10
returns-in-I10 c = puts-by (λ k t. depth_text k ++ t) c.in-I10.is c.put-in-I10.ensures

pub returns-in-I12 : goal.returns-in-I12
returns-in-I12 c = puts-by (λ k t. depth_text k ++ t) c.in-I12.is c.put-in-I12.ensures

pub returns-in-I16 : goal.returns-in-I16
returns-in-I16 c = puts-by (λ k t. depth_text k ++ t) c.in-I16.is c.put-in-I16.ensures

pub returns-in-F16 : goal.returns-in-F16
returns-in-F16 c = puts-by (λ k t. depth_text k ++ t) c.in-F16.is c.put-in-F16.ensures

pub returns-in-F32 : goal.returns-in-F32
returns-in-F32 c = puts-by (λ k t. depth_text k ++ t) c.in-F32.is c.put-in-F32.ensures
