use mathlib.Core.Path.{◌≡◌}
use Rattle.pixel.specs.declared.Pixel.{Pixel}
use Rattle.pixel.specs.Range.{range_pixel, range_component}
use Rattle.pixel.specs.RangeLaws.{range-bound}
use Rattle.pixel.specs.Range.{range_pixel}
use Rattle.pixel.proofs.range_pixel.Goals as goal

pub returns : goal.returns
unfolding range_pixel range_component
returns c =
    let a = c.args in
    let r : Pixel = record { r = c.range_line.result.0; g = c.range_line-2.result.0; b = c.range_line-3.result.0 } in
    let e : r ≡ range_pixel a.min_in a.max_in a.min_out a.max_out a.clamp a.x = cc in
    record { value = e; within = range-bound a.min_in a.max_in a.min_out a.max_out a.clamp a.x r e }
