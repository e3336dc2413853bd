use Rattle.xml.specs.Xml.{plain, open_name}
use Rattle.xml.specs.Code.{Reads, part}
use Rattle.tags.specs.Ended.{EndsAs}
use Prim.Native.Nat.{◌+◌}
use Rattle.describing.proofs.Laws.{when-ok, when-none}
use Rattle.describing.proofs.Texts.{no_name, open-node, empty-node, failed-node}
use Rattle.describing.proofs.node_text.Goals as goal

pub returns-in_err-e : goal.returns-in_err-e
returns-in_err-e c =
    rw c.from_residual.ensures (when-none (Reads 2 open_name.run (part c.args.file.now (c.args.at + 1)) c.args.file.now c.args.at) _ (λ x v. no_name _ _ x v) _
    c.in_err-e.ensures.value c.open_name.ensures)

pub returns-in_err-q : goal.returns-in_err-q
returns-in_err-q c =
    rw c.from_residual-in_err-q.ensures (when-none (EndsAs plain c.args.file.now c.in_ok-e.e) _
    (λ x v. failed-node _ _ _ (rw (when-ok _ _ c.in_ok-e.ensures.value) at c.open_name.ensures) x v) _ c.in_err-q.ensures.value c.plain_tag.ensures)

pub returns-in-Open : goal.returns-in-Open
returns-in-Open c =
    rw (open-node _ _ _ (rw (when-ok _ _ c.in_ok-e.ensures.value) at c.open_name.ensures) _
    (rw (when-ok _ _ c.in_ok-q.ensures.value) at c.plain_tag.ensures) _ c.in-Open.is) c.first_text.ensures

pub returns-in-Empty : goal.returns-in-Empty
returns-in-Empty c =
    empty-node _ _ _ (rw (when-ok _ _ c.in_ok-e.ensures.value) at c.open_name.ensures) _
    (rw (when-ok _ _ c.in_ok-q.ensures.value) at c.plain_tag.ensures) _ c.in-Empty.is
