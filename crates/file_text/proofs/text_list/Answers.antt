use Rattle.file_text.proofs.Whole.{no-root, root-failed, text-whole}
use borrow.Author.Rules.{rules}
use Rattle.file_text.proofs.text_list.Goals as goal

pub returns-in-Err : goal.returns-in-Err
returns-in-Err c = rw (c.step_of.ensures, c.no_list.ensures) (no-root _ _ _ _ (rw c.in-Err.is at c.to_root.ensures))

pub returns-in_default : goal.returns-in_default
returns-in_default c = root-failed _ _ _ _ (rw c.in-Ok.is at c.to_root.ensures) _ _ _ c.in_default.is c.root-step.ensures

pub returns-in-Ok-scan : goal.returns-in-Ok-scan
returns-in-Ok-scan c = text-whole _ _ _ _ (rw c.in-Ok.is at c.to_root.ensures) _ _ _ _ c.in-Ok-scan.is c.root-step.ensures c.epilogue-step.ensures
