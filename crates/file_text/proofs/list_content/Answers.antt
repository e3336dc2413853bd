use Rattle.file_text.proofs.Content.{content-start, content-end, content-child, content-moves, content-failed, content-on, content-none}
use Rattle.file_text.proofs.Found.{list-stored, list_full, list_same}
use Rattle.markup.specs.Next.{Behind}
use Rattle.markup.specs.declared.Item.TheVariants as Items
use Rattle.markup.proofs.Next.{passed-low}
use Rattle.std.specs.Prelude.{Ok}
use native.Mathlib.Omega.{arith}
use borrow.Author.Rules.{rules}
use Rattle.file_text.proofs.list_content.Goals as goal

pub loop-a-init : goal.loop-a-init
loop-a-init c = rw (c.empty-list.ensures, c.no_progress-so_far.ensures) (content-start _ _ _ _)

pub returns-in-Err : goal.returns-in-Err
returns-in-Err c = rw c.ended-in-Err.ensures (content-none _ _ _ _ _ _ _ _ c.loop-a.invariant _ (rw c.in-Err.is at c.next_tag.ensures))

pub returns-in-Ok-End : goal.returns-in-Ok-End
returns-in-Ok-End c =
    let next : Behind c.args.s.now c.loop-a.i (Ok Items.EndTag) c.in-Ok-End.a = rw c.in-Ok-End.field-0-is at c.in-Ok-End.ensures in
    rw c.ended-in-Ok-End.ensures
    (content-end _ _ _ _ _ _ _ _ (content-on _ _ _ _ _ _ _ _ c.loop-a.invariant next.passed) _ next.reads (rw c.in-Ok-End.a-is at c.end_tag.ensures))

pub returns-in-Err-list_child : goal.returns-in-Err-list_child
returns-in-Err-list_child c =
    let next : Behind c.args.s.now c.loop-a.i (Ok (Items.StartTag c.in-Ok-Start.e)) c.in-Ok-Start.a = rw c.in-Ok-Start.field-0-is at c.in-Ok-Start.ensures in
    rw c.ended.ensures
    (content-failed _ _ _ _ _ _ _ _ (content-on _ _ _ _ _ _ _ _ c.loop-a.invariant next.passed) _ next.reads _ _
    (rw (c.in-Ok-Start.a-is, c.in-Ok-Start.e-is, c.in-Err-list_child.is) at c.list_child.ensures))

pub loop-a-preserved-then-k-lt32 : goal.loop-a-preserved-then-k-lt32
loop-a-preserved-then-k-lt32 c =
    let next : Behind c.args.s.now c.loop-a.i (Ok (Items.StartTag c.in-Ok-Start.e)) c.in-Ok-Start.a = rw c.in-Ok-Start.field-0-is at c.in-Ok-Start.ensures in
    content-child _ _ _ _ _ _ _ _ (content-on _ _ _ _ _ _ _ _ c.loop-a.invariant next.passed) _ next.reads _ _ _ _
    (rw (c.in-Ok-Start.a-is, c.in-Ok-Start.e-is, c.in-Ok.is) at c.list_child.ensures) (rw c.in-Ok-Start.a-is at c.behind_child-so_far.ensures)
    (list-stored _ _ _ c.in-Node.is (omega (arith, c.if-k-lt32.true)))

pub loop-a-smaller-then-k-lt32 : goal.loop-a-smaller-then-k-lt32
loop-a-smaller-then-k-lt32 c =
    let next : Behind c.args.s.now c.loop-a.i (Ok (Items.StartTag c.in-Ok-Start.e)) c.in-Ok-Start.a = rw c.in-Ok-Start.field-0-is at c.in-Ok-Start.ensures in
    omega (
      arith,
      passed-low _ _ next.passed,
      content-moves _ _ _ _ _ _ _ _ (content-on _ _ _ _ _ _ _ _ c.loop-a.invariant next.passed) _ next.reads _ _
          (rw (c.in-Ok-Start.a-is, c.in-Ok-Start.e-is, c.in-Ok.is) at c.list_child.ensures),
    )

pub loop-a-preserved-else-k-lt32 : goal.loop-a-preserved-else-k-lt32
loop-a-preserved-else-k-lt32 c =
    let next : Behind c.args.s.now c.loop-a.i (Ok (Items.StartTag c.in-Ok-Start.e)) c.in-Ok-Start.a = rw c.in-Ok-Start.field-0-is at c.in-Ok-Start.ensures in
    content-child _ _ _ _ _ _ _ _ (content-on _ _ _ _ _ _ _ _ c.loop-a.invariant next.passed) _ next.reads _ _ _ _
    (rw (c.in-Ok-Start.a-is, c.in-Ok-Start.e-is, c.in-Ok.is) at c.list_child.ensures) (rw c.in-Ok-Start.a-is at c.behind_child-so_far.ensures)
    (list_full _ _ _ c.in-Node.is c.if-k-lt32.false)

pub loop-a-smaller-else-k-lt32 : goal.loop-a-smaller-else-k-lt32
loop-a-smaller-else-k-lt32 c =
    let next : Behind c.args.s.now c.loop-a.i (Ok (Items.StartTag c.in-Ok-Start.e)) c.in-Ok-Start.a = rw c.in-Ok-Start.field-0-is at c.in-Ok-Start.ensures in
    omega (
      arith,
      passed-low _ _ next.passed,
      content-moves _ _ _ _ _ _ _ _ (content-on _ _ _ _ _ _ _ _ c.loop-a.invariant next.passed) _ next.reads _ _
          (rw (c.in-Ok-Start.a-is, c.in-Ok-Start.e-is, c.in-Ok.is) at c.list_child.ensures),
    )

pub loop-a-preserved : goal.loop-a-preserved
loop-a-preserved c =
    let next : Behind c.args.s.now c.loop-a.i (Ok (Items.StartTag c.in-Ok-Start.e)) c.in-Ok-Start.a = rw c.in-Ok-Start.field-0-is at c.in-Ok-Start.ensures in
    content-child _ _ _ _ _ _ _ _ (content-on _ _ _ _ _ _ _ _ c.loop-a.invariant next.passed) _ next.reads _ _ _ _
    (rw (c.in-Ok-Start.a-is, c.in-Ok-Start.e-is, c.in-Ok.is) at c.list_child.ensures) (rw c.in-Ok-Start.a-is at c.behind_child-so_far.ensures)
    (list_same _ _ c.in_default.not-Node)

pub loop-a-smaller : goal.loop-a-smaller
loop-a-smaller c =
    let next : Behind c.args.s.now c.loop-a.i (Ok (Items.StartTag c.in-Ok-Start.e)) c.in-Ok-Start.a = rw c.in-Ok-Start.field-0-is at c.in-Ok-Start.ensures in
    omega (
      arith,
      passed-low _ _ next.passed,
      content-moves _ _ _ _ _ _ _ _ (content-on _ _ _ _ _ _ _ _ c.loop-a.invariant next.passed) _ next.reads _ _
          (rw (c.in-Ok-Start.a-is, c.in-Ok-Start.e-is, c.in-Ok.is) at c.list_child.ensures),
    )
