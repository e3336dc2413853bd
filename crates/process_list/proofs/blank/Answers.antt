use mathlib.Core.Path.{ap, ◌∙◌}
use mathlib.Core.Bool.{false}
use Rattle.process_list.specs.declared.Kind.TheVariants.{Matrix}
use Rattle.process_list.specs.declared.Depth.TheVariants.{I8}
use Rattle.process_list.specs.List.{blank_node, unplaced}
use Rattle.process_list.proofs.blank.Goals as goal

pub returns : goal.returns
unfolding blank_node
returns c = c.unplaced.ensures ∙ ap (unplaced (Matrix false) I8 I8) c.none.ensures
