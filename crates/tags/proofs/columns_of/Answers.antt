use Rattle.scanning.specs.Steps.{scan}
use Rattle.tags.proofs.Words.{lut_columns-def}
use Rattle.tags.proofs.columns_of.Goals as goal

pub returns-then-same : goal.returns-then-same
returns-then-same c = search (scan, lut_columns-def)

pub returns-then-same-2 : goal.returns-then-same-2
returns-then-same-2 c = search (scan, lut_columns-def)

pub returns : goal.returns
returns c = search (scan, lut_columns-def)
