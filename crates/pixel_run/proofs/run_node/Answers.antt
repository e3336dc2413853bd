use Rattle.room.specs.Room.{lent}
use Rattle.pixel_run.specs.Step.{step_pixel}
use Rattle.pixel_run.proofs.ClampRuns.{node-ran}
use Rattle.pixel_run.proofs.run_node.Goals as goal

pub returns-in-Range : goal.returns-in-Range
unfolding step_pixel
returns-in-Range c =
    let a = c.args in
    let k = node-ran a.rows a.in_scale a.out_scale (lent a.coefficients.now a.powers.now) a.pixels.now _ a.p (simp c.in-Range.is c.run_range.ensures.pixels_after) in
    record { pixels_after = k.0; clamp_holds = k.1 }

pub returns-in-Cdl : goal.returns-in-Cdl
unfolding step_pixel
returns-in-Cdl c =
    let a = c.args in
    let k = node-ran a.rows a.in_scale a.out_scale (lent a.coefficients.now a.powers.now) a.pixels.now _ a.p (simp c.in-Cdl.is c.run_cdl.ensures) in
    record { pixels_after = k.0; clamp_holds = k.1 }

pub returns-in-Matrix : goal.returns-in-Matrix
unfolding step_pixel
returns-in-Matrix c =
    let a = c.args in
    let k = node-ran a.rows a.in_scale a.out_scale (lent a.coefficients.now a.powers.now) a.pixels.now _ a.p (simp c.in-Matrix.is c.run_matrix.ensures) in
    record { pixels_after = k.0; clamp_holds = k.1 }

pub returns-in-Lut1d : goal.returns-in-Lut1d
unfolding step_pixel
returns-in-Lut1d c =
    let a = c.args in
    let k = node-ran a.rows a.in_scale a.out_scale (lent a.coefficients.now a.powers.now) a.pixels.now _ a.p (simp c.in-Lut1d.is c.run_lut1d.ensures) in
    record { pixels_after = k.0; clamp_holds = k.1 }

pub returns-in-Lut3d : goal.returns-in-Lut3d
unfolding step_pixel
returns-in-Lut3d c =
    let a = c.args in
    let k = node-ran a.rows a.in_scale a.out_scale (lent a.coefficients.now a.powers.now) a.pixels.now _ a.p (simp c.in-Lut3d.is c.run_lut3d.ensures) in
    record { pixels_after = k.0; clamp_holds = k.1 }

pub returns-in-OneEnd : goal.returns-in-OneEnd
unfolding step_pixel
returns-in-OneEnd c =
    let a = c.args in
    let k = node-ran a.rows a.in_scale a.out_scale (lent a.coefficients.now a.powers.now) a.pixels.now _ a.p (simp c.in-OneEnd.is c.run_one_end.ensures.pixels_after) in
    record { pixels_after = k.0; clamp_holds = k.1 }
