use Rattle.std.proofs.Common.{rules, true}
use Rattle.pixel.specs.F64.{one}
use Rattle.pixel.specs.Cdl.{cdl_pixel}
use Rattle.pixel_run.proofs.UnitScales.{unit-run}
use Rattle.pixel_run.proofs.run_cdl.Goals as goal

pub returns-then-out_scale : goal.returns-then-out_scale
returns-then-out_scale c =
    let a = c.args in
    let n = a.numbers in
    let f = cdl_pixel n.slope_r n.slope_g n.slope_b n.offset_r n.offset_g n.offset_b n.saturation true one one in
    unit-run n.slope_r n.slope_g n.slope_b n.offset_r n.offset_g n.offset_b n.saturation a.clamp a.in_scale a.out_scale c.if-in_scale.true c.if-out_scale.true a.pixels.now c.if-clamp.true
    (c.each_pixel.ensures f (λ x y e. search rules))
