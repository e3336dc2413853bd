use borrow.Author.Rules.{rules}
use Rattle.file_text.proofs.no_list.Goals as goal

pub returns : goal.returns
returns c = rw (c.state_by.ensures, c.no_progress.ensures, c.empty.ensures)
