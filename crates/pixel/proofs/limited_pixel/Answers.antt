use mathlib.Core.Path.{◌≡◌}
use Rattle.pixel.specs.declared.Pixel.{Pixel}
use Rattle.pixel.specs.OneEnd.{limited_pixel}
use Rattle.pixel.specs.OneEndLaws.{pixel-keeps}
use Rattle.pixel.proofs.limited_pixel.Goals as goal

pub returns : goal.returns
unfolding limited_pixel
returns c =
    let a = c.args in
    let r : Pixel = record { r = c.limited.result.0; g = c.limited-2.result.0; b = c.limited-3.result.0 } in
    let e : r ≡ limited_pixel a.end a.limit a.x = cc in
    record { value = e; keeps_end_pixel = pixel-keeps a.end a.limit a.x r e }
