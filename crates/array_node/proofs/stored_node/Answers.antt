use Rattle.std.proofs.lemmas.Result.{err_from_is_err_and}
use Rattle.tags.specs.Ended.{tag_of, tag-failed}
use Rattle.node_parts.proofs.Reading.{no_tag, tag-behind}
use Rattle.array_node.proofs.Arrays.{table-failed, table-node, table-is}
use Rattle.array_node.proofs.stored_node.Goals as goal

pub returns-in_err-tag : goal.returns-in_err-tag
returns-in_err-tag c =
    let p = err_from_is_err_and c.from_residual.result c.from_residual.ensures.1 in
    rw (p.1, p.2) (table-failed c.args.node _ _ _ _ _ _ (tag-failed _ _ c.node_tag.ensures _ _ no_tag _ c.in_err-tag.ensures))

pub returns-in_err-content : goal.returns-in_err-content
unfolding tag_of
returns-in_err-content c =
    let p = err_from_is_err_and c.from_residual-in_err-content.result c.from_residual-in_err-content.ensures.1 in
    let w = rw c.table_kind-table.ensures at c.in_err-content.ensures in
    rw (p.1, p.2) (table-node c.args.node _ _ _ _ _ _ _ _ _ _ (λ st h. tt) (tag-behind _ _ c.node_tag.ensures _ _ _ _ c.behind.ensures c.in_ok-tag.ensures) w)

pub returns : goal.returns
unfolding tag_of
returns c =
    let w = rw c.table_kind-table.ensures at c.in_ok-content.ensures in
    rw c.finished.ensures (table-node c.args.node _ _ _ _ _ _ _ _ _ _ (λ st h. table-is _ _ _ _ _ _ _ st h)
    (tag-behind _ _ c.node_tag.ensures _ _ _ _ c.behind.ensures c.in_ok-tag.ensures) w)
