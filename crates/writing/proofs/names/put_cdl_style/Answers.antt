use mathlib.Core.List.{◌++◌}
use Rattle.text_out.proofs.Laws.{puts-by}
use Rattle.written_form.specs.Written.{cdl_style_text}
use Rattle.writing.proofs.names.put_cdl_style.Goals as goal

-- The style of an ASC_CDL. Assumes nothing.
pub returns-in-Fwd : goal.returns-in-Fwd
returns-in-Fwd c = puts-by (λ k t. cdl_style_text k ++ t) c.in-Fwd.is c.put.ensures

pub returns-in-FwdNoClamp : goal.returns-in-FwdNoClamp
returns-in-FwdNoClamp c = puts-by (λ k t. cdl_style_text k ++ t) c.in-FwdNoClamp.is c.put-in-FwdNoClamp.ensures
