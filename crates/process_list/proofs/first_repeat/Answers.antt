use mathlib.Core.Path.{sym, ◌∙◌}
use native.Mathlib.Omega.{arith}
use Rattle.process_list.proofs.Seen.{seen_start, seen_here, seen-turn, seen_none}
use Rattle.process_list.proofs.first_repeat.Goals as goal

-- The nodes from index k on are still to be asked. Assumes nothing.
pub loop-k-init : goal.loop-k-init
loop-k-init c = seen_start _

pub returns-then-is_seen-clause-number : goal.returns-then-is_seen-clause-number
returns-then-is_seen-clause-number c =
    sym (c.loop-k.invariant ∙ seen_here _ c.loop-k.k (omega arith) (sym c.is_seen.ensures ∙ c.if-is_seen.true))

pub loop-k-preserved : goal.loop-k-preserved
loop-k-preserved c =
    c.loop-k.invariant ∙ seen-turn _ c.loop-k.k (omega arith) (sym c.is_seen.ensures ∙ c.if-is_seen.false)

pub returns-clause-number : goal.returns-clause-number
returns-clause-number c =
    sym (c.loop-k.invariant ∙ seen_none _ c.loop-k.k (omega arith))
