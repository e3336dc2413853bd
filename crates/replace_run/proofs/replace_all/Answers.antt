use Prim.Native.Nat.{◌<◌, min}
use native.Mathlib.Omega.{arith}
use lib.ListN.{length, length-set}
use Rattle.replace_run.proofs.Laws.{going_end, no_more, turn}
use Rattle.replace_run.proofs.replace_all.Goals as goal

pub loop-i-preserved : goal.loop-i-preserved
loop-i-preserved c =
    let z = c.loop-i in
    let s = c.args in
    let t = c.replace_marked-outcome in
    let least : c.loop-i.i < min (min (min (min (length s.ks.now) (length s.marks.now)) (length s.ends.now)) (length s.numbers.now)) (length s.places.now) =
    omega (arith, c.loop-i-test.true, c.min.ensures, c.min-2.ensures, c.min-3.ensures, c.min-calls.ensures) in (
      simp length-set z.invariant.0,
      simp length-set z.invariant.1,
      omega (arith, t.auto.coefficients, z.invariant.2),
      omega (arith, t.auto.powers, z.invariant.3),
      turn _ _ s.ks.now s.marks.now s.ends.now s.numbers.now s.places.now s.elements.now _ _ _ _ _ _ _ _ z.invariant.4 (omega (arith, least)) (omega (arith, least))
          (omega (arith, least)) (omega (arith, least)) (omega (arith, least)) (omega (arith, least, z.invariant.0)) (omega (arith, least, z.invariant.1)) _
          c.part.ensures t.result _ _ t.ensures _ c.told-number.ensures,
    )

pub returns : goal.returns
returns c =
    let z = c.loop-i in
    let s = c.args in
    going_end _ _ _ _ _ _ _ _ _ z.invariant.4
    (no_more z.start z.i s.ks.now s.marks.now s.ends.now s.numbers.now s.places.now s.elements.now c.min-calls.result
    (omega (arith, c.min.ensures, c.min-2.ensures, c.min-3.ensures, c.min-calls.ensures)) (omega (arith, c.loop-i-test.false)))
