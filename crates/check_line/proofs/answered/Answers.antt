use Rattle.check_line.proofs.Laws.{line-put, answer-short}
use borrow.Author.Rules.{rules}
use Rattle.check_line.proofs.answered.Goals as goal

-- The answer's text, which is short. Assumes nothing.
pub returns : goal.returns
returns c = line-put _ (answer-short c.args.answer (search rules)) (search rules) c.put_answer-length.ensures
