use Rattle.clf_c.proofs.Applying.{no-threes, no_number, slice_passes}
use Rattle.room.specs.Room.{lent}
use Rattle.clf_c.proofs.clf_apply.Goals as goal

pub returns-then-pixels-ne0 : goal.returns-then-pixels-ne0
returns-then-pixels-ne0 c = let a = c.args in rw c.from.ensures (no-threes a.file.now (lent a.coefficients.now a.powers.now) a.pixels.now c.if-pixels-ne0.true)

pub returns-then-first-pixels : goal.returns-then-first-pixels
returns-then-first-pixels c =
    let a = c.args in
    rw c.from-then-first-pixels.ensures
    (no_number a.file.now (lent a.coefficients.now a.powers.now) a.pixels.now c.first_not_finite-first.result c.if-pixels-ne0.false
    c.first_not_finite-first.ensures c.if-first-pixels.true)

pub read_and_run-requires : goal.read_and_run-requires
read_and_run-requires c =
    slice_passes c.args.pixels.now c.first_not_finite-first.result c.if-pixels-ne0.false c.first_not_finite-first.ensures c.if-first-pixels.false
