-- The written form (document 01): the lines of a list under an id, their text, and what writing answers. Definitions only.
-- Only the lines of a valid list are written (`write_of`: 16 first). Each of its nodes has a shape that is carried, as many numbers as its kind, each number of our form, and no id or a right one (`sound` of `valid`):
-- so what is said below for every list of numbers, also of too few or of none, is written for just as many as the node's kind has.
use Rattle.std.specs.Prelude.{Bool, cond, List, [], ◌∷◌, ◌++◌, ℕ, zero, suc, ltb, length, take, drop}
use Rattle.decimal.specs.declared.Decimal.{Decimal}
use Rattle.decimal_write.specs.Written.{digits, written_of}
use Rattle.process_list.specs.declared.Depth.{Depth}
use Rattle.process_list.specs.declared.Depth.TheVariants.{I8, I10, I12, I16, F16, F32}
use Rattle.process_list.specs.declared.RangeStyle.{RangeStyle}
use Rattle.process_list.specs.declared.RangeStyle.TheVariants.{Clamp, NoClamp}
use Rattle.process_list.specs.declared.RangeEnd.{RangeEnd}
use Rattle.process_list.specs.declared.RangeEnd.TheVariants.{Minimum, Maximum}
use Rattle.process_list.specs.declared.CdlStyle.{CdlStyle}
use Rattle.process_list.specs.declared.CdlStyle.TheVariants.{Fwd, FwdNoClamp}
use Rattle.process_list.specs.declared.Interpolation.{Interpolation}
use Rattle.process_list.specs.declared.Interpolation.TheVariants.{Trilinear, Tetrahedral}
use Rattle.process_list.specs.declared.Kind.{Kind}
use Rattle.process_list.specs.declared.Kind.TheVariants.{Matrix, Lut1d, Range, Cdl, Lut3d, OneEnd}
use Rattle.process_list.specs.declared.ProcessList.{ProcessList}
use Rattle.process_list.specs.List.{Element, cube_entries}
use Rattle.room.specs.Room.{Room}
use Rattle.valid.specs.Valid.{is_valid, elements_of}
use Rattle.xml.specs.Bytes.{bytes}
use Rattle.ids.specs.Ids.{id_right}
use Rattle.refusals.specs.Refusals as Refusal

-- ---- lines, and pieces of a line

-- 'LF', the byte that ends a line
abbrev pub line_feed : ℕ
line_feed = 10

-- 'LF after each': the text of lines
unfoldable pub joined : List (List ℕ) → List ℕ
joined [] = []
joined (line ∷ lines) = line ++ (line_feed ∷ joined lines)

-- the tags `<name>` and `</name>`
unfoldable pub opening : List ℕ → List ℕ
opening name = bytes "<" ++ name ++ bytes ">"

unfoldable pub closing : List ℕ → List ℕ
closing name = bytes "</" ++ name ++ bytes ">"

-- an attribute in a tag: ` name="text"`
unfoldable pub attribute : List ℕ → List ℕ → List ℕ
attribute name text = bytes " " ++ name ++ bytes "=\"" ++ text ++ bytes "\""

-- numbers with 'single spaces' between them, each 'its coefficient, then `e` and the power unless 0' (`written_of`).
-- No line of a valid list has a row of no numbers: a value element holds 1 or 3, a row of an Array 1, 3 or 4. Nor has it a number out of range, of which `written_of` says no bytes
unfoldable pub row : List Decimal → List ℕ
row [] = []
row (d ∷ []) = written_of d
row (d ∷ (e ∷ ds)) = written_of d ++ bytes " " ++ row (e ∷ ds)

-- 'one .. value element a line': an element of this name that holds these numbers
unfoldable pub value_line : List ℕ → List Decimal → List ℕ
value_line name ds = opening name ++ row ds ++ closing name

-- ---- what stands between a node's tags

-- 'one entry or row a line': so many rows of so many columns, 'row by row' and 'entry by entry'. In a valid list there are rows times columns numbers, so none is left out and no row is short
unfoldable pub row_lines : ℕ → ℕ → List Decimal → List (List ℕ)
row_lines zero columns ds = []
row_lines (suc rows) columns ds = row (take columns ds) ∷ row_lines rows columns (drop columns ds)

-- 'dims as held': whole numbers, one space between them. The Array of a Matrix or a LUT1D has two, that of a LUT3D four: none is never asked for
unfoldable pub dims : List ℕ → List ℕ
dims [] = []
dims (n ∷ []) = digits n
dims (n ∷ (k ∷ ns)) = digits n ++ bytes " " ++ dims (k ∷ ns)

-- '`<Array dim="n c">` (dims as held)'
unfoldable pub array_line : List ℕ → List ℕ
array_line ns = bytes "<Array" ++ attribute (bytes "dim") (dims ns) ++ bytes ">"

-- 'Array: `<Array dim="n c">` .., one entry or row a line, .. `</Array>`': with these dims, so many rows of so many columns
unfoldable pub array_lines : List ℕ → ℕ → ℕ → List Decimal → List (List ℕ)
array_lines ns rows columns ds = array_line ns ∷ row_lines rows columns ds ++ (closing (bytes "Array") ∷ [])

-- the Array of a Matrix or a LUT1D: `dim` "rows columns"
unfoldable pub table_lines : ℕ → ℕ → List Decimal → List (List ℕ)
table_lines rows columns ds = array_lines (rows ∷ columns ∷ []) rows columns ds

-- the Array of a LUT3D (W-201): `dim` "n n n 3", 'one entry .. a line', which are three numbers
unfoldable pub cube_lines : ℕ → List Decimal → List (List ℕ)
cube_lines n ds = array_lines (n ∷ n ∷ n ∷ 3 ∷ []) (cube_entries n) 3 ds

-- a Matrix: '`dim` "3 3" or "3 4"'
abbrev pub matrix_rows : ℕ
matrix_rows = 3

abbrev pub matrix_columns : Bool → ℕ
matrix_columns wide = cond wide 4 3

-- one, or three, of a node's numbers, from number k on, counted from 0. A Range of a valid list has 4, or 2 if it has one end, and an ASC_CDL 10, so that each of these is there
abbrev pub one : ℕ → List Decimal → List Decimal
one k ds = take 1 (drop k ds)

abbrev pub three : ℕ → List Decimal → List Decimal
three k ds = take 3 (drop k ds)

-- a Range with four values, whose numbers stand 'in the order above': minInValue, maxInValue, minOutValue, maxOutValue
unfoldable pub range_lines : List Decimal → List (List ℕ)
range_lines ds =
    value_line (bytes "minInValue") (one 0 ds)
    ∷ value_line (bytes "maxInValue") (one 1 ds)
    ∷ value_line (bytes "minOutValue") (one 2 ds)
    ∷ value_line (bytes "maxOutValue") (one 3 ds)
    ∷ []

-- a Range with one end, whose numbers are its in value and its out value: 'only its pair is written' (02, W-202)
unfoldable pub one_end_lines : RangeEnd → List Decimal → List (List ℕ)
one_end_lines Minimum ds = value_line (bytes "minInValue") (one 0 ds) ∷ value_line (bytes "minOutValue") (one 1 ds) ∷ []
one_end_lines Maximum ds = value_line (bytes "maxInValue") (one 0 ds) ∷ value_line (bytes "maxOutValue") (one 1 ds) ∷ []

-- 'ASC_CDL writes both parts': 'SOPNode (Slope, Offset, Power in this order, three numbers each), then .. SatNode (Saturation)'
unfoldable pub cdl_lines : List Decimal → List (List ℕ)
cdl_lines ds =
    opening (bytes "SOPNode")
    ∷ value_line (bytes "Slope") (three 0 ds)
    ∷ value_line (bytes "Offset") (three 3 ds)
    ∷ value_line (bytes "Power") (three 6 ds)
    ∷ closing (bytes "SOPNode")
    ∷ opening (bytes "SatNode")
    ∷ value_line (bytes "Saturation") (one 9 ds)
    ∷ closing (bytes "SatNode")
    ∷ []

-- 'Matrix: one Array, .. row by row', 'LUT1D: one Array, .. entry by entry', a LUT3D's too, and the value elements of a Range or an ASC_CDL
unfoldable pub content_lines : Kind → List Decimal → List (List ℕ)
content_lines (Matrix wide) ds = table_lines matrix_rows (matrix_columns wide) ds
content_lines (Lut1d entries columns) ds = table_lines entries columns ds
content_lines (Range style) ds = range_lines ds
content_lines (Cdl style) ds = cdl_lines ds
content_lines (Lut3d points interpolation) ds = cube_lines points ds
content_lines (OneEnd end) ds = one_end_lines end ds

-- ---- nodes

-- a node's name
abbrev pub name_text : Kind → List ℕ
name_text (Matrix wide) = bytes "Matrix"
name_text (Lut1d entries columns) = bytes "LUT1D"
name_text (Range style) = bytes "Range"
name_text (Cdl style) = bytes "ASC_CDL"
name_text (Lut3d points interpolation) = bytes "LUT3D"
name_text (OneEnd end) = bytes "Range"

-- '`inBitDepth`, `outBitDepth` from 8i, 10i, 12i, 16i, 16f, 32f'
abbrev pub depth_text : Depth → List ℕ
depth_text I8 = bytes "8i"
depth_text I10 = bytes "10i"
depth_text I12 = bytes "12i"
depth_text I16 = bytes "16i"
depth_text F16 = bytes "16f"
depth_text F32 = bytes "32f"

-- 'style always written', of the kinds that have one: Range `style` "Clamp" or "noClamp", ASC_CDL `style` "Fwd" or "FwdNoClamp"
abbrev pub range_style_text : RangeStyle → List ℕ
range_style_text Clamp = bytes " style=\"Clamp\""
range_style_text NoClamp = bytes " style=\"noClamp\""

abbrev pub cdl_style_text : CdlStyle → List ℕ
cdl_style_text Fwd = bytes " style=\"Fwd\""
cdl_style_text FwdNoClamp = bytes " style=\"FwdNoClamp\""

-- W-201: '`interpolation` .. always written, as last attribute'
abbrev pub interpolation_text : Interpolation → List ℕ
interpolation_text Trilinear = bytes " interpolation=\"trilinear\""
interpolation_text Tetrahedral = bytes " interpolation=\"tetrahedral\""

-- what stands in a node's tag behind the depths and its id, last of all. A Range with one end is carried with style Clamp alone
abbrev pub style_text : Kind → List ℕ
style_text (Matrix wide) = []
style_text (Lut1d entries columns) = []
style_text (Range style) = range_style_text style
style_text (Cdl style) = cdl_style_text style
style_text (Lut3d points interpolation) = interpolation_text interpolation
style_text (OneEnd end) = range_style_text Clamp

-- W-203: a node's id 'is written after outBitDepth'; of a node without one nothing is written
unfoldable pub id_attribute : List ℕ → List ℕ
id_attribute [] = []
id_attribute (b ∷ t) = attribute (bytes "id") (b ∷ t)

-- 'attributes in the order in, out, style', the id behind the depths, and a LUT3D's method last
unfoldable pub start_line : Kind → Depth → Depth → List ℕ → List ℕ
start_line kind input output id =
    bytes "<" ++ name_text kind
    ++ attribute (bytes "inBitDepth") (depth_text input)
    ++ attribute (bytes "outBitDepth") (depth_text output)
    ++ id_attribute id
    ++ style_text kind
    ++ bytes ">"

-- 'one tag or value element a line, .. no indents': a node's start tag, what it holds, its end tag
unfoldable pub node_lines : Element → List (List ℕ)
node_lines e = start_line e.kind e.input e.output e.id ∷ content_lines e.kind e.numbers ++ (closing (name_text e.kind) ∷ [])

-- the nodes, in list order
unfoldable pub nodes_lines : List Element → List (List ℕ)
nodes_lines [] = []
nodes_lines (e ∷ es) = node_lines e ++ nodes_lines es

-- ---- the whole, under an id

-- 'Declaration', the 38 bytes with which a file starts
abbrev pub declaration : List ℕ
declaration = bytes "<?xml version=\"1.0\" encoding=\"UTF-8\"?>"

-- 'ProcessList: `id` .., `compCLFversion` "3.0"'
unfoldable pub root_line : List ℕ → List ℕ
root_line id = bytes "<ProcessList" ++ attribute (bytes "id") id ++ attribute (bytes "compCLFversion") (bytes "3.0") ++ bytes ">"

-- 'Declaration, then one tag or value element a line'
unfoldable pub list_lines : List ℕ → List Element → List (List ℕ)
list_lines id es = declaration ∷ root_line id ∷ nodes_lines es ++ (closing (bytes "ProcessList") ∷ [])

-- ---- what writing answers

-- 18: 'id for writing not 1 to 64 of letters, digits, `-`, `_`, `.`'
abbrev pub most_id_bytes : ℕ
most_id_bytes = 64

-- a refusal with its number, or the text
pub data Writing : Type 0 where
  refused : ℕ → Writing
  written : List ℕ → Writing

-- 17: 'output shorter than the text'
unfoldable pub fitting : ℕ → List ℕ → Writing
fitting out t = cond (ltb out (length t)) (refused Refusal.short_output) (written t)

-- 'Writing: 16, 18, 17', for an output of this length
unfoldable pub write_of : ProcessList → Room → List ℕ → ℕ → Writing
write_of l m id out =
    cond (is_valid l m)
    (cond (id_right most_id_bytes id) (fitting out (joined (list_lines id (elements_of l m)))) (refused Refusal.wrong_id))
    (refused Refusal.no_reading)

-- the refusal number, 0 for accepted; its place is 0 ('of 0, 4, 14 and 16 to 19, 0')
abbrev pub writing_number : Writing → ℕ
writing_number (refused n) = n
writing_number (written t) = 0

-- how many bytes the text has; none where it is refused
abbrev pub writing_length : Writing → ℕ
writing_length (refused n) = 0
writing_length (written t) = length t

-- the output afterwards: 'Output bytes after the text stay as they were'; 'Any other refusal changes nothing'
abbrev pub output_of : Writing → List ℕ → List ℕ
output_of (refused n) out = out
output_of (written t) out = t ++ drop (length t) out
