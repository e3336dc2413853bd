use Rattle.late_nodes.proofs.Whole.{promise}
use Rattle.late_nodes.proofs.replace_arrivals.Goals as goal

pub returns : goal.returns
returns c =
    promise _ (c.well_formed.0.1.1.1.0.1.0.1) _ _ _ _ _ _ c.replace_all.ensures
