use Rattle.file_text.proofs.Children.{child-description, child-input, child-output, child-info, child-node, child-by-node}
use mathlib.Core.Path.{sym, ◌∙◌}
use borrow.Author.Rules.{rules}
use Rattle.file_text.proofs.list_child.Goals as goal

pub returns-then-same : goal.returns-then-same
returns-then-same c =
    let if1 = c.if-same in
    let same = c.same in
    let part = c.part-w in
    rw (← part.ensures, c.once.ensures) (child-description _ _ _ _ _ _ _ (sym same.ensures ∙ if1.true) c.text_element-scan.ensures)

pub returns-then-same-2 : goal.returns-then-same-2
returns-then-same-2 c =
    let if2 = c.if-same-2 in
    let text-element2 = c.text_element-scan-then-same-2 in
    let same2 = c.same-2 in
    let if1 = c.if-same in
    let same = c.same in
    let part = c.part-w in
    rw (← part.ensures, c.once-then-same-2.ensures) (child-input _ _ _ _ _ _ _ (sym same.ensures ∙ if1.false) (sym same2.ensures ∙ if2.true) text-element2.ensures)

pub returns-then-same-3 : goal.returns-then-same-3
returns-then-same-3 c =
    let if3 = c.if-same-3 in
    let text-element3 = c.text_element-scan-then-same-3 in
    let same3 = c.same-3 in
    let if2 = c.if-same-2 in
    let same2 = c.same-2 in
    let if1 = c.if-same in
    let same = c.same in
    let part = c.part-w in
    rw (← part.ensures, c.once-then-same-3.ensures)
    (child-output _ _ _ _ _ _ _ (sym same.ensures ∙ if1.false) (sym same2.ensures ∙ if2.false) (sym same3.ensures ∙ if3.true) text-element3.ensures)

pub returns-then-same-4 : goal.returns-then-same-4
returns-then-same-4 c =
    let info = c.info in
    let if4 = c.if-same-4 in
    let same4 = c.same-4 in
    let if3 = c.if-same-3 in
    let same3 = c.same-3 in
    let if2 = c.if-same-2 in
    let same2 = c.same-2 in
    let if1 = c.if-same in
    let same = c.same in
    let part = c.part-w in
    rw (← part.ensures, c.once-then-same-4.ensures)
    (child-info _ _ _ _ _ _ _ (sym same.ensures ∙ if1.false) (sym same2.ensures ∙ if2.false) (sym same3.ensures ∙ if3.false) (sym same4.ensures ∙ if4.true) info.ensures)

pub shape_of-coefficients : goal.shape_of-coefficients
shape_of-coefficients c = (child-by-node c.node_child.ensures).coefficients.size

pub shape_of-powers : goal.shape_of-powers
shape_of-powers c = (child-by-node c.node_child.ensures).powers.size

pub returns : goal.returns
returns c =
    let node-child = c.node_child in
    let node-name = c.node_name-name in
    let if4 = c.if-same-4 in
    let same4 = c.same-4 in
    let if3 = c.if-same-3 in
    let same3 = c.same-3 in
    let if2 = c.if-same-2 in
    let same2 = c.same-2 in
    let if1 = c.if-same in
    let same = c.same in
    let part = c.part-w in
    rw (← part.ensures) (child-node _ _ _ _ _ _ _ _ _ (sym same.ensures ∙ if1.false) (sym same2.ensures ∙ if2.false) (sym same3.ensures ∙ if3.false) (sym same4.ensures ∙ if4.false)
    node-name.ensures node-child.ensures)
