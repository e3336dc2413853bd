use Rattle.look.specs.Replacing.{start}
use Rattle.element.proofs.Starts.{more-names, no_names}
use borrow.Author.Rules.{rules}
use Rattle.element.proofs.element_start.Goals as goal

-- the seven names, from the last to the first
pub returns : goal.returns
unfolding start
returns c =
    more-names _ _ _ _ _ _
    (more-names _ _ _ _ _ _
    (more-names _ _ _ _ _ _
    (more-names _ _ _ _ _ _
    (more-names _ _ _ _ _ _
    (more-names _ _ _ _ _ _
    (more-names _ _ _ _ _ _ (no_names _) c.word_or-lut3d.ensures)
    c.word_or-exponent.ensures)
    c.word_or-log.ensures)
    c.word_or-cdl.ensures)
    c.word_or-range.ensures)
    c.word_or-lut1d.ensures)
    c.word_or.ensures
