use mathlib.Core.Path.{sym, ◌∙◌}
use Rattle.std.proofs.Common.{Ok, Err}
use Rattle.clf_c.proofs.Applying.{refused, ran-through}
use Rattle.room.specs.Room.{lent}
use Rattle.clf_c.proofs.read_and_run.Goals as goal

pub returns-in-Err : goal.returns-in-Err
returns-in-Err c =
    let a = c.args in
    rw c.from.ensures (refused a.file.now (lent a.coefficients.now a.powers.now) a.pixels.now c.requires c.in-Err.why _ (rw c.in-Err.is at c.read.ensures))

pub returns-in-Ok-run : goal.returns-in-Ok-run
returns-in-Ok-run c =
    let a = c.args in
    ran-through a.file.now (lent a.coefficients.now a.powers.now) a.pixels.now c.requires c.in-Ok.list _ (rw c.in-Ok.is at c.read.ensures)
    (Ok tt) _ (sym c.in-Ok-run.is ∙ c.run.ensures.value) c.run.ensures.pixels_after

pub returns-in-Err-run : goal.returns-in-Err-run
returns-in-Err-run c =
    let a = c.args in
    rw c.from-in-Err-run.ensures
    (ran-through a.file.now (lent a.coefficients.now a.powers.now) a.pixels.now c.requires c.in-Ok.list _ (rw c.in-Ok.is at c.read.ensures)
    (Err c.in-Err-run.why) _ (sym c.in-Err-run.is ∙ c.run.ensures.value) c.run.ensures.pixels_after)
