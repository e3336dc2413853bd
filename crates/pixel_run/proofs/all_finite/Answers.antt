use Rattle.std.proofs.Common.{arith, sym, ◌∙◌}
use Rattle.pixel_run.specs.FiniteLaws.{flag-kept, flag-dropped, flag-end}
use Rattle.pixel_run.proofs.FiniteTests.{same-finite}
use Rattle.pixel_run.proofs.all_finite.Goals as goal
use Rattle.pixel_run.proofs.all_finite.Goals.{then-not-is_finite, else-not-is_finite}

pub loop-x-preserved : goal.loop-x-preserved
loop-x-preserved c =
    let said = sym (same-finite _) ∙ sym c.is_finite.ensures.value in
    elim c.if-not-is_finite.branch [
      | then-not-is_finite w ↦ flag-dropped _ c.loop-x.x-index c.loop-x.ok _ c.loop-x.invariant c.loop-x-test.true (said ∙ w.if-not-is_finite.true) w.ok-is
      | else-not-is_finite w ↦ flag-kept _ c.loop-x.x-index c.loop-x.ok _ c.loop-x.invariant c.loop-x-test.true (said ∙ w.if-not-is_finite.false) w.ok-is
    ]

pub returns : goal.returns
returns c = flag-end _ c.loop-x.x-index _ c.loop-x.invariant (omega arith)
