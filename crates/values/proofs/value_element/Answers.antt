use Rattle.clf.specs.Numbers.{value_rules}
use Rattle.tags.specs.Ended.{tag-reads, tag-failed}
use mathlib.Core.Bool.{false}
use mathlib.Core.List.{[]}
use Rattle.tags.specs.declared.TagKind.TheVariants.{Value}
use Rattle.values.proofs.Elements.{value-rules, value-failed, value-then}
use Rattle.values.proofs.value_element.Goals as goal

pub returns-in-Ok : goal.returns-in-Ok
returns-in-Ok c =
    value-then _ _ _ _ _ _ _ _ _ _ _ (tag-reads value_rules Value value-rules _ _ _ c.in-Ok.ensures) (rw c.behind-q.ensures at c.numbers.ensures)

pub returns-in-Err : goal.returns-in-Err
returns-in-Err c =
    value-failed _ _ _ _ _ _ _ _ _ _ (tag-failed value_rules Value value-rules _ _ (λ e. record { attributes = []; empty = false }) _ c.in-Err.ensures) c.clear_from.ensures
