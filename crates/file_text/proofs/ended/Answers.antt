use borrow.Author.Rules.{rules}
use Rattle.file_text.proofs.ended.Goals as goal

pub returns : goal.returns
returns c = rw (c.step_of.ensures, c.state_by.ensures)
