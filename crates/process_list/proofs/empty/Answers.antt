use Rattle.process_list.specs.List.{list_of}
use Rattle.process_list.proofs.empty.Goals as goal

pub returns : goal.returns
unfolding list_of
returns c = simp c.blank.ensures
