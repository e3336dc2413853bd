use Rattle.process_list.proofs.Laws.{cube-capped}
use Rattle.process_list.proofs.cube_numbers.Goals as goal

pub returns : goal.returns
returns c = cube-capped _ _ _ _ c.table_numbers.ensures c.table_numbers-entries.ensures c.table_numbers-2.ensures
