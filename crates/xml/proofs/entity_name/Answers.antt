use Rattle.xml.proofs.Entities.{more-names, no_names}
use Rattle.xml.proofs.entity_name.Goals as goal

-- the five names, from the last to the first
pub returns : goal.returns
returns c h =
    more-names _ _ _ _ _ _
    (more-names _ _ _ _ _ _
    (more-names _ _ _ _ _ _
    (more-names _ _ _ _ _ _
    (more-names _ _ _ _ _ _ (no_names _ _ _ h) c.name_or-apos.ensures)
    c.name_or-quot.ensures)
    c.name_or-gt.ensures)
    c.name_or-lt.ensures)
    c.name_or.ensures
