use mathlib.Core.Path.{◌≡◌, refl}
use mathlib.Core.Bool.{false}
use mathlib.Core.List.{[]}
use Rattle.clf.specs.List.{list_rules}
use Rattle.tags.specs.Rules.{rules_of}
use Rattle.tags.specs.Ended.{tag_open, tag-empty, tag-failed}
use Rattle.tags.specs.declared.TagKind.TheVariants.{ProcessList}
use Rattle.file_text.proofs.Whole.{root-open, root-empty, root-stop}
use borrow.Author.Rules.{rules}
use Rattle.file_text.proofs.root.Goals as goal

rules-are : rules_of ProcessList ≡ list_rules
unfolding rules_of
rules-are = refl

pub returns-in-Open : goal.returns-in-Open
returns-in-Open c = root-open _ _ _ _ _ _ _ _ (tag_open list_rules ProcessList rules-are _ _ _ c.in-Ok.ensures _ c.in-Open.is) c.list_content.ensures

pub returns-in-Empty : goal.returns-in-Empty
returns-in-Empty c =
    rw (c.step_of.ensures, c.no_list.ensures) (root-empty _ _ _ _ _ _ (tag-empty list_rules ProcessList rules-are _ _ _ c.in-Ok.ensures _ c.in-Empty.is))

pub returns-in-Err : goal.returns-in-Err
returns-in-Err c =
    rw (c.step_of-in-Err.ensures, c.no_list-in-Err.ensures)
    (root-stop _ _ _ _ (λ e. record { attributes = []; empty = false }) _ (tag-failed list_rules ProcessList rules-are _ _ _ _ c.in-Err.ensures))
