use Rattle.text_out.specs.Output.{counted}
use Rattle.text_out.proofs.Laws.{byte-in, byte-out}
use borrow.Author.Rules.{rules}
use Rattle.text_out.proofs.put_byte.Goals.{then-at-out, else-at-out}
use Rattle.text_out.proofs.put_byte.Goals as goal

-- A byte inside the output, or only counted. Assumes nothing.
pub returns : goal.returns
unfolding counted
returns c = let a = c.args in elim c.if-at-out.branch [
  | then-at-out w ↦ rw w.out-is (byte-in a.out.now a.at a.b _ w.if-at-out.true (search rules) c.saturating_add.ensures)
  | else-at-out w ↦ rw w.out-is (byte-out a.out.now a.at a.b _ w.if-at-out.false (search rules) c.saturating_add.ensures)
]
