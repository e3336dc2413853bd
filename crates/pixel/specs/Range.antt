-- Document 01, Range: 's = (maxOut − minOut)/(maxIn − minIn); out = x·s + (minOut − minIn·s); Clamp holds it between minOut and maxOut.'
use Rattle.std.specs.Prelude.{Bool, cond, Float}
use Rattle.pixel.specs.declared.Pixel.{Pixel}
use Rattle.pixel.specs.declared.CodeValue.{CodeValue}
use Rattle.pixel.specs.F64.{◌⊕◌, ◌⊖◌, ◌⊗◌, ◌⊘◌}
use Rattle.pixel.specs.Hold.{hold}

-- 's = (maxOut − minOut)/(maxIn − minIn)'
unfoldable pub range_scale : Float → Float → Float → Float → Float
range_scale minIn maxIn minOut maxOut = (maxOut ⊖ minOut) ⊘ (maxIn ⊖ minIn)

-- 'minOut − minIn·s'
unfoldable pub range_shift : Float → Float → Float → Float
range_shift minIn minOut s = minOut ⊖ minIn ⊗ s

-- 'out = x·s + (minOut − minIn·s); Clamp holds it between minOut and maxOut', with the scale and the shift worked out
unfoldable pub range_line : Float → Float → Float → Float → Bool → CodeValue → CodeValue
range_line s shift minOut maxOut clamp x =
    let out = x.0 ⊗ s ⊕ shift in
    record { 0 = cond clamp (hold out minOut maxOut) out }

-- a Range's step on one component
unfoldable pub range_component : Float → Float → Float → Float → Bool → Float → Float
range_component minIn maxIn minOut maxOut clamp x =
    let s = range_scale minIn maxIn minOut maxOut in
    (range_line s (range_shift minIn minOut s) minOut maxOut clamp (record { 0 = x })).0

-- and on a pixel
unfoldable pub range_pixel : Float → Float → Float → Float → Bool → Pixel → Pixel
range_pixel minIn maxIn minOut maxOut clamp x = record {
  r = range_component minIn maxIn minOut maxOut clamp x.r;
  g = range_component minIn maxIn minOut maxOut clamp x.g;
  b = range_component minIn maxIn minOut maxOut clamp x.b;
}
