-- Document 01's whole example, a list with each other form of node, and an output of exactly the text's length, computed. Assumes nothing.
use Rattle.process_list.specs.declared.RangeStyle.TheVariants.{Clamp, NoClamp}
use Rattle.process_list.specs.declared.RangeEnd.TheVariants.{Minimum, Maximum}
use Rattle.process_list.specs.declared.CdlStyle.TheVariants.{FwdNoClamp}
use Rattle.process_list.specs.declared.Interpolation.TheVariants.{Tetrahedral}
use mathlib.Core.Path.{◌≡◌, refl}
use mathlib.Core.Bool.{true}
use mathlib.Core.List.{List, [], ◌∷◌, ◌++◌}
use lib.IntN.{pos, negsuc}
use Rattle.decimal.specs.declared.Decimal.{Decimal}
use Rattle.process_list.specs.declared.Depth.TheVariants.{I8, I10, I12, I16, F16, F32}
use Rattle.process_list.specs.declared.Kind.TheVariants.{Matrix, Lut1d, Range, Cdl, Lut3d, OneEnd}
use Rattle.process_list.specs.List.{Element}
use Rattle.xml.specs.Bytes.{bytes}
use Rattle.decimal_write.specs.Written.{digits_within, digits, whole_text, exponent, written_of}
use Rattle.written_form.specs.Written.{joined, opening, closing, attribute, row, value_line, row_lines, dims, array_line, array_lines, table_lines, cube_lines}
use Rattle.written_form.specs.Written.{range_lines, one_end_lines, cdl_lines, content_lines, id_attribute, start_line, node_lines, nodes_lines, root_line, list_lines, refused, written, fitting, output_of}

abbrev zero : Decimal
zero = record { coefficient = pos 0; power = pos 0 }

abbrev one : Decimal
one = record { coefficient = pos 1; power = pos 0 }

-- 5e-1
abbrev half : Decimal
half = record { coefficient = pos 5; power = negsuc 0 }

-- -25e22
abbrev large : Decimal
large = record { coefficient = negsuc 24; power = pos 22 }

-- 'Whole, for id `a`'
pub whole-example : joined (list_lines (bytes "a") (record { kind = Range Clamp; input = F32; output = F32; id = []; numbers = zero ∷ one ∷ zero ∷ half ∷ [] } ∷ []))
    ≡ bytes "<?xml version=\"1.0\" encoding=\"UTF-8\"?>\n"
    ++ bytes "<ProcessList id=\"a\" compCLFversion=\"3.0\">\n"
    ++ bytes "<Range inBitDepth=\"32f\" outBitDepth=\"32f\" style=\"Clamp\">\n"
    ++ bytes "<minInValue>0</minInValue>\n"
    ++ bytes "<maxInValue>1</maxInValue>\n"
    ++ bytes "<minOutValue>0</minOutValue>\n"
    ++ bytes "<maxOutValue>5e-1</maxOutValue>\n"
    ++ bytes "</Range>\n"
    ++ bytes "</ProcessList>\n"
unfolding joined list_lines root_line nodes_lines node_lines start_line id_attribute content_lines range_lines value_line opening closing attribute row written_of whole_text exponent digits digits_within
whole-example = refl

-- a Matrix 3x4, a LUT1D of two entries of three columns, an ASC_CDL of style FwdNoClamp, a Range of style noClamp
abbrev others : List Element
others =
    record { kind = Matrix true; input = I10; output = F16; id = []; numbers = one ∷ zero ∷ zero ∷ large ∷ zero ∷ one ∷ zero ∷ zero ∷ zero ∷ zero ∷ one ∷ half ∷ [] }
    ∷ record { kind = Lut1d 2 3; input = F16; output = I8; id = []; numbers = zero ∷ zero ∷ zero ∷ one ∷ half ∷ one ∷ [] }
    ∷ record { kind = Cdl FwdNoClamp; input = I8; output = I12; id = []; numbers = one ∷ half ∷ one ∷ zero ∷ zero ∷ half ∷ one ∷ one ∷ one ∷ half ∷ [] }
    ∷ record { kind = Range NoClamp; input = I12; output = I16; id = []; numbers = zero ∷ one ∷ zero ∷ one ∷ [] }
    ∷ []

-- 2 x 2 x 2 entries of three numbers
abbrev cube : List Decimal
cube =
    zero ∷ zero ∷ zero ∷ zero ∷ zero ∷ one ∷ zero ∷ one ∷ zero ∷ zero ∷ one ∷ one
    ∷ one ∷ zero ∷ zero ∷ one ∷ zero ∷ one ∷ one ∷ one ∷ zero ∷ one ∷ one ∷ half ∷ []

pub other-nodes : joined (nodes_lines others)
    ≡ bytes "<Matrix inBitDepth=\"10i\" outBitDepth=\"16f\">\n"
    ++ bytes "<Array dim=\"3 4\">\n"
    ++ bytes "1 0 0 -25e22\n"
    ++ bytes "0 1 0 0\n"
    ++ bytes "0 0 1 5e-1\n"
    ++ bytes "</Array>\n"
    ++ bytes "</Matrix>\n"
    ++ bytes "<LUT1D inBitDepth=\"16f\" outBitDepth=\"8i\">\n"
    ++ bytes "<Array dim=\"2 3\">\n"
    ++ bytes "0 0 0\n"
    ++ bytes "1 5e-1 1\n"
    ++ bytes "</Array>\n"
    ++ bytes "</LUT1D>\n"
    ++ bytes "<ASC_CDL inBitDepth=\"8i\" outBitDepth=\"12i\" style=\"FwdNoClamp\">\n"
    ++ bytes "<SOPNode>\n"
    ++ bytes "<Slope>1 5e-1 1</Slope>\n"
    ++ bytes "<Offset>0 0 5e-1</Offset>\n"
    ++ bytes "<Power>1 1 1</Power>\n"
    ++ bytes "</SOPNode>\n"
    ++ bytes "<SatNode>\n"
    ++ bytes "<Saturation>5e-1</Saturation>\n"
    ++ bytes "</SatNode>\n"
    ++ bytes "</ASC_CDL>\n"
    ++ bytes "<Range inBitDepth=\"12i\" outBitDepth=\"16i\" style=\"noClamp\">\n"
    ++ bytes "<minInValue>0</minInValue>\n"
    ++ bytes "<maxInValue>1</maxInValue>\n"
    ++ bytes "<minOutValue>0</minOutValue>\n"
    ++ bytes "<maxOutValue>1</maxOutValue>\n"
    ++ bytes "</Range>\n"
unfolding joined nodes_lines node_lines start_line id_attribute content_lines table_lines array_lines array_line dims row_lines range_lines cdl_lines value_line opening closing attribute row
    written_of whole_text exponent digits digits_within
other-nodes = refl

-- W-201: the smallest LUT3D, whose method is tetrahedral; blue runs fastest, an entry a line
pub cube-lines : joined (node_lines (record { kind = Lut3d 2 Tetrahedral; input = F32; output = F32; id = []; numbers = cube }))
    ≡ bytes "<LUT3D inBitDepth=\"32f\" outBitDepth=\"32f\" interpolation=\"tetrahedral\">\n"
    ++ bytes "<Array dim=\"2 2 2 3\">\n"
    ++ bytes "0 0 0\n0 0 1\n0 1 0\n0 1 1\n1 0 0\n1 0 1\n1 1 0\n1 1 5e-1\n"
    ++ bytes "</Array>\n"
    ++ bytes "</LUT3D>\n"
unfolding joined node_lines start_line id_attribute content_lines cube_lines array_lines array_line dims row_lines closing attribute row written_of whole_text exponent digits digits_within
cube-lines = refl

-- W-202: a Range with the minimum alone, and one with the maximum alone: each with its pair and with style Clamp
abbrev one_ended : List Element
one_ended =
    record { kind = OneEnd Minimum; input = I10; output = I10; id = []; numbers = zero ∷ zero ∷ [] }
    ∷ record { kind = OneEnd Maximum; input = F16; output = F16; id = []; numbers = half ∷ half ∷ [] }
    ∷ []

pub one-end-lines : joined (nodes_lines one_ended)
    ≡ bytes "<Range inBitDepth=\"10i\" outBitDepth=\"10i\" style=\"Clamp\">\n"
    ++ bytes "<minInValue>0</minInValue>\n"
    ++ bytes "<minOutValue>0</minOutValue>\n"
    ++ bytes "</Range>\n"
    ++ bytes "<Range inBitDepth=\"16f\" outBitDepth=\"16f\" style=\"Clamp\">\n"
    ++ bytes "<maxInValue>5e-1</maxInValue>\n"
    ++ bytes "<maxOutValue>5e-1</maxOutValue>\n"
    ++ bytes "</Range>\n"
unfolding joined nodes_lines node_lines start_line id_attribute content_lines one_end_lines value_line opening closing attribute row written_of whole_text exponent digits digits_within
one-end-lines = refl

-- W-203: an id 'is written after outBitDepth', and so before the style
pub id-line : joined (node_lines (record { kind = Range NoClamp; input = F16; output = F32; id = bytes "cam4"; numbers = zero ∷ one ∷ zero ∷ half ∷ [] }))
    ≡ bytes "<Range inBitDepth=\"16f\" outBitDepth=\"32f\" id=\"cam4\" style=\"noClamp\">\n"
    ++ bytes "<minInValue>0</minInValue>\n"
    ++ bytes "<maxInValue>1</maxInValue>\n"
    ++ bytes "<minOutValue>0</minOutValue>\n"
    ++ bytes "<maxOutValue>5e-1</maxOutValue>\n"
    ++ bytes "</Range>\n"
unfolding joined node_lines start_line id_attribute content_lines range_lines value_line opening closing attribute row written_of whole_text exponent digits digits_within
id-line = refl

-- an output of the text's length is long enough, one of a byte less is 17
pub exact-fit : fitting 3 (bytes "abc") ≡ written (bytes "abc")
unfolding fitting
exact-fit = refl

pub one-short : fitting 2 (bytes "abc") ≡ refused 17
unfolding fitting
one-short = refl

-- what stands behind the text stays; refused, all does
pub behind-text : output_of (written (bytes "abc")) (bytes "vwxyz") ≡ bytes "abcyz"
behind-text = refl

pub none-changed : output_of (refused 17) (bytes "vw") ≡ bytes "vw"
none-changed = refl
