use native.Mathlib.Omega.{arith}
use mathlib.Core.Path.{◌≡◌}
use lib.ListN.{length}
use Prim.Native.Nat.{◌+◌, ◌/◌}
use Rattle.shell_text.proofs.Laws.{none_passed, stops, passes-one, ends, few_bytes}
use borrow.Author.Rules.{rules}
use Rattle.shell_text.proofs.hex.decode.Goals as goal

pub loop-i-init : goal.loop-i-init
loop-i-init c = (search rules, search rules, none_passed _)

pub returns-in_default : goal.returns-in_default
returns-in_default c =
    let p = c.loop-i.invariant.2 in ends _ _ c.loop-i.i 0 p (omega (arith, p.size))
    (stops _ _ c.loop-i.i 0 p _ _ _ (omega arith) (omega arith) c.joined.ensures (omega (arith, p.size)) c.in_default.is)

pub loop-i-preserved : goal.loop-i-preserved
loop-i-preserved c =
    let p = c.loop-i.invariant.2 in (
      search rules,
      search rules,
      passes-one _ _ c.loop-i.i c.in-Some.byte p _ _ _ (omega arith) (omega arith) c.joined.ensures (omega (arith, p.size)) c.in-Some.is,
    )

pub returns : goal.returns
returns c =
    let p = c.loop-i.invariant.2 in
    let e : c.loop-i.i ≡ length c.args.word.now / 2 = omega arith in
    rw (← e) (ends _ _ c.loop-i.i 0 p (omega (arith, p.size)) (few_bytes _ (c.loop-i.i + c.loop-i.i) (omega arith)))
