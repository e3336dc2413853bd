-- Document 01: 'Pixels are lent f64, three components a pixel, overwritten; an empty slice is accepted.'
use Rattle.std.specs.Prelude.{List, [], ◌∷◌, Float}
use Rattle.pixel.specs.declared.Pixel.{Pixel}
use Rattle.process_list.specs.declared.RangeEnd.{RangeEnd}
use Rattle.pixel.specs.Bounds.{Within}
use Rattle.pixel.specs.OneEnd.{InsidePixel}

-- a pixel's three components in front of the rest
abbrev pub in_front : Pixel → List Float → List Float
in_front x xs = x.r ∷ x.g ∷ x.b ∷ xs

-- every pixel of a slice mapped, three components at a time; one or two components at the end are no pixel and stay as they are
unfoldable pub each_pixel : (Pixel → Pixel) → List Float → List Float
each_pixel f [] = []
each_pixel f (a ∷ []) = a ∷ []
each_pixel f (a ∷ b ∷ []) = a ∷ b ∷ []
each_pixel f (a ∷ b ∷ c ∷ xs) = in_front (f (record { r = a; g = b; b = c })) (each_pixel f xs)

-- a property of every pixel of a slice
unfoldable pub EachHolds : (Pixel → Type 0) → List Float → Type 0
EachHolds P [] = Unit
EachHolds P (a ∷ []) = Unit
EachHolds P (a ∷ b ∷ []) = Unit
EachHolds P (a ∷ b ∷ c ∷ xs) = P (record { r = a; g = b; b = c }) × EachHolds P xs

-- 'Clamp's stated bound': every component of every pixel of a slice between lo and hi
abbrev pub EachWithin : Float → Float → List Float → Type 0
EachWithin lo hi = EachHolds (Within lo hi)

-- that of a Range with one end: no component of any pixel beyond the limit, and none a NaN
abbrev pub EachInside : RangeEnd → Float → List Float → Type 0
EachInside end limit = EachHolds (InsidePixel end limit)
