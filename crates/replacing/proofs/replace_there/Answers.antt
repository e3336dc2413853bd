use mathlib.Core.Path.{sym}
use Rattle.std.proofs.lemmas.Result.{err_from_is_err_and}
use Rattle.replacing.proofs.Calls.{call-large, call-small, call-judged}
use Rattle.replacing.proofs.replace_there.Goals as goal

pub returns-in_err-judge_length : goal.returns-in_err-judge_length
returns-in_err-judge_length c =
    let p = err_from_is_err_and c.from_residual.result c.from_residual.ensures.1 in
    rw (p.1, p.2) (call-large _ _ _ _ c.requires _ _ (sym c.in_err-judge_length.ensures))

pub returns-in_err-node : goal.returns-in_err-node
returns-in_err-node c =
    let p = err_from_is_err_and c.from_residual-in_err-node.result c.from_residual-in_err-node.ensures.1 in
    rw (p.1, p.2) (call-judged _ _ _ _ _ (call-small _ _ _ _ c.requires (sym c.in_ok-judge_length.ensures)) _ c.in_err-node.ensures)

pub replace_node-requires : goal.replace_node-requires
replace_node-requires c = record { callable = call-small _ _ _ _ c.requires (sym c.in_ok-judge_length.ensures); element = c.in_ok-node.ensures }
