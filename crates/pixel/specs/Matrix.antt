-- Document 01, Matrix: 'r·a1 + g·a2 + b·a3 for each row, then + k only for 3x4. No scaling: coefficients carry it.'
use Rattle.std.specs.Prelude.{Bool, cond, List, [], get_or, Float}
use Rattle.std.specs.Float.{nan}
use Rattle.pixel.specs.declared.Pixel.{Pixel}
use Rattle.pixel.specs.declared.CodeValue.{CodeValue}
use Rattle.pixel.specs.F64.{◌⊕◌, ◌⊗◌}

-- one row a1 a2 a3 k; wide says that the Matrix is 3x4. The code hands over arrays of three rows of four, so that each index has its number and the defaults (`nan`, the empty row) are never taken
unfoldable pub row_out : List Float → Bool → Pixel → CodeValue
row_out row wide x =
    let sum = x.r ⊗ get_or row 0 nan ⊕ x.g ⊗ get_or row 1 nan ⊕ x.b ⊗ get_or row 2 nan in
    record { 0 = cond wide (sum ⊕ get_or row 3 nan) sum }

-- the three rows give red, green and blue
unfoldable pub matrix_pixel : List (List Float) → Bool → Pixel → Pixel
matrix_pixel rows wide x = record {
  r = (row_out (get_or rows 0 []) wide x).0;
  g = (row_out (get_or rows 1 []) wide x).0;
  b = (row_out (get_or rows 2 []) wide x).0;
}
