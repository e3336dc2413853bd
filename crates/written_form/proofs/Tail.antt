-- The written form in tail form: each text stands in front of what follows it, as the code puts it (`node_text e t` is the text of the node e, then t).
-- It is the text of the lines (`list-text`). Assumes nothing.
use mathlib.Core.Path.{◌≡◌, refl, ap, ◌∙◌}
use mathlib.Core.List.{List, [], ◌∷◌, ◌++◌, append_assoc}
use Prim.Native.Nat.{ℕ, zero, suc}
use lib.ListN.{take, drop}
use Rattle.decimal.specs.declared.Decimal.{Decimal}
use Rattle.decimal_write.specs.Written.{digits, written_of}
use Rattle.process_list.specs.declared.Depth.{Depth}
use Rattle.process_list.specs.declared.RangeEnd.{RangeEnd}
use Rattle.process_list.specs.declared.RangeEnd.TheVariants.{Minimum, Maximum}
use Rattle.process_list.specs.declared.Kind.{Kind}
use Rattle.process_list.specs.declared.Kind.TheVariants.{Matrix, Lut1d, Range, Cdl, Lut3d, OneEnd}
use Rattle.process_list.specs.List.{Element, cube_entries}
use Rattle.xml.specs.Bytes.{bytes}
use Rattle.written_form.specs.Written.{line_feed, joined, opening, closing, attribute, row, value_line, row_lines, dims, array_line, array_lines, table_lines, cube_lines}
use Rattle.written_form.specs.Written.{matrix_rows, matrix_columns, one, three, range_lines, one_end_lines, cdl_lines, content_lines}
use Rattle.written_form.specs.Written.{name_text, depth_text, style_text, id_attribute, start_line, node_lines, nodes_lines, declaration, root_line, list_lines}

-- ---- numbers

-- a space before each number
unfoldable pub spaced_text : List Decimal → List ℕ → List ℕ
spaced_text [] t = t
spaced_text (d ∷ ds) t = bytes " " ++ (written_of d ++ spaced_text ds t)

-- the numbers of one line
unfoldable pub row_text : List Decimal → List ℕ → List ℕ
row_text [] t = t
row_text (d ∷ ds) t = written_of d ++ spaced_text ds t

unfoldable pub rows_text : ℕ → ℕ → List Decimal → List ℕ → List ℕ
rows_text zero columns ds t = t
rows_text (suc rows) columns ds t = row_text (take columns ds) (bytes "\n" ++ rows_text rows columns (drop columns ds) t)

-- the text of `dim`
unfoldable pub dims_text : List ℕ → List ℕ → List ℕ
dims_text [] t = t
dims_text (n ∷ []) t = digits n ++ t
dims_text (n ∷ (k ∷ ns)) t = digits n ++ (bytes " " ++ dims_text (k ∷ ns) t)

-- what stands behind the text of `dim`: the end of the tag, the rows, the end tag
unfoldable pub lines_text : ℕ → ℕ → List Decimal → List ℕ → List ℕ
lines_text rows columns ds t = bytes "\">\n" ++ rows_text rows columns ds (bytes "</Array>\n" ++ t)

unfoldable pub array_text : List ℕ → ℕ → ℕ → List Decimal → List ℕ → List ℕ
array_text ns rows columns ds t = bytes "<Array dim=\"" ++ dims_text ns (lines_text rows columns ds t)

-- the Array of a Matrix or a LUT1D
abbrev pub table_text : ℕ → ℕ → List Decimal → List ℕ → List ℕ
table_text rows columns ds t = array_text (rows ∷ columns ∷ []) rows columns ds t

-- the Array of a LUT3D
abbrev pub cube_text : ℕ → List Decimal → List ℕ → List ℕ
cube_text n ds t = array_text (n ∷ n ∷ n ∷ 3 ∷ []) (cube_entries n) 3 ds t

unfoldable pub value_text : List ℕ → List Decimal → List ℕ → List ℕ
value_text name ds t = bytes "<" ++ (name ++ (bytes ">" ++ row_text ds (bytes "</" ++ (name ++ (bytes ">\n" ++ t)))))

-- ---- nodes

unfoldable pub range_text : List Decimal → List ℕ → List ℕ
range_text ds t =
    value_text (bytes "minInValue") (one 0 ds)
    (value_text (bytes "maxInValue") (one 1 ds)
    (value_text (bytes "minOutValue") (one 2 ds)
    (value_text (bytes "maxOutValue") (one 3 ds) t)))

-- the in value and the out value of one end of a Range, under their names
unfoldable pub pair_text : List ℕ → List ℕ → List Decimal → List ℕ → List ℕ
pair_text in_name out_name ds t = value_text in_name (one 0 ds) (value_text out_name (one 1 ds) t)

-- a Range with one end
unfoldable pub one_end_text : RangeEnd → List Decimal → List ℕ → List ℕ
one_end_text Minimum ds t = pair_text (bytes "minInValue") (bytes "minOutValue") ds t
one_end_text Maximum ds t = pair_text (bytes "maxInValue") (bytes "maxOutValue") ds t

unfoldable pub sop_text : List Decimal → List ℕ → List ℕ
sop_text ds t =
    bytes "<SOPNode>\n" ++
    value_text (bytes "Slope") (three 0 ds)
    (value_text (bytes "Offset") (three 3 ds)
    (value_text (bytes "Power") (three 6 ds)
    (bytes "</SOPNode>\n" ++ t)))

unfoldable pub sat_text : List Decimal → List ℕ → List ℕ
sat_text ds t = bytes "<SatNode>\n" ++ value_text (bytes "Saturation") (one 9 ds) (bytes "</SatNode>\n" ++ t)

unfoldable pub content_text : Kind → List Decimal → List ℕ → List ℕ
content_text (Matrix wide) ds t = table_text matrix_rows (matrix_columns wide) ds t
content_text (Lut1d entries columns) ds t = table_text entries columns ds t
content_text (Range style) ds t = range_text ds t
content_text (Cdl style) ds t = sop_text ds (sat_text ds t)
content_text (Lut3d points interpolation) ds t = cube_text points ds t
content_text (OneEnd end) ds t = one_end_text end ds t

abbrev pub depths_text : Depth → Depth → List ℕ → List ℕ
depths_text input output t = bytes " inBitDepth=\"" ++ (depth_text input ++ (bytes "\" outBitDepth=\"" ++ (depth_text output ++ (bytes "\"" ++ t))))

unfoldable pub node_id_text : List ℕ → List ℕ → List ℕ
node_id_text [] t = t
node_id_text (b ∷ s) t = bytes " id=\"" ++ ((b ∷ s) ++ (bytes "\"" ++ t))

unfoldable pub start_text : Kind → Depth → Depth → List ℕ → List ℕ → List ℕ
start_text kind input output id t = bytes "<" ++ (name_text kind ++ depths_text input output (node_id_text id (style_text kind ++ (bytes ">\n" ++ t))))

unfoldable pub end_text : Kind → List ℕ → List ℕ
end_text kind t = bytes "</" ++ (name_text kind ++ (bytes ">\n" ++ t))

unfoldable pub node_text : Element → List ℕ → List ℕ
node_text e t = start_text e.kind e.input e.output e.id (content_text e.kind e.numbers (end_text e.kind t))

unfoldable pub nodes_text : List Element → List ℕ → List ℕ
nodes_text [] t = t
nodes_text (e ∷ es) t = node_text e (nodes_text es t)

-- ---- the whole text, under an id

unfoldable pub head_text : List ℕ → List ℕ → List ℕ
head_text id t =
    bytes "<?xml version=\"1.0\" encoding=\"UTF-8\"?>\n<ProcessList id=\"" ++ (id ++ (bytes "\" compCLFversion=\"3.0\">\n" ++ t))

unfoldable pub list_text : List ℕ → List Element → List ℕ
list_text id es = head_text id (nodes_text es (bytes "</ProcessList>\n"))

-- ---- the tail form is the text of the lines

-- pieces one after the other, grouped from the left and from the right; where they are fewer, the first ones are empty
pieces : (a b c d e f g t : List ℕ) → a ++ b ++ c ++ d ++ e ++ f ++ g ++ t ≡ a ++ (b ++ (c ++ (d ++ (e ++ (f ++ (g ++ t))))))
pieces a b c d e f g t = simp append_assoc

opening-text : (name t : List ℕ) → opening name ++ t ≡ bytes "<" ++ (name ++ (bytes ">" ++ t))
unfolding opening
opening-text name t = pieces [] [] [] [] (bytes "<") name (bytes ">") t

closing-text : (name t : List ℕ) → closing name ++ t ≡ bytes "</" ++ (name ++ (bytes ">" ++ t))
unfolding closing
closing-text name t = pieces [] [] [] [] (bytes "</") name (bytes ">") t

-- a line that is a plain tag
opening-line : (name : List ℕ) (ls : List (List ℕ)) → joined (opening name ∷ ls) ≡ bytes "<" ++ (name ++ (bytes ">\n" ++ joined ls))
unfolding joined
opening-line name ls = opening-text name (line_feed ∷ joined ls)

closing-line : (name : List ℕ) (ls : List (List ℕ)) → joined (closing name ∷ ls) ≡ bytes "</" ++ (name ++ (bytes ">\n" ++ joined ls))
unfolding joined
closing-line name ls = closing-text name (line_feed ∷ joined ls)

-- lines between a start tag and an end tag
enclosed : (start : List ℕ) (content : List (List ℕ)) (end : List ℕ) (ls : List (List ℕ)) → joined ((start ∷ content ++ (end ∷ [])) ++ ls) ≡ joined (start ∷ content ++ (end ∷ ls))
enclosed start content end ls = ap joined (append_assoc (start ∷ content) (end ∷ []) ls)

attribute-text : (name text t : List ℕ) → attribute name text ++ t ≡ bytes " " ++ (name ++ (bytes "=\"" ++ (text ++ (bytes "\"" ++ t))))
unfolding attribute
attribute-text name text t = pieces [] [] (bytes " ") name (bytes "=\"") text (bytes "\"") t

row-text : (ds : List Decimal) (t : List ℕ) → row ds ++ t ≡ row_text ds t
unfolding row_text spaced_text row
row-text [] t = refl
row-text (d ∷ []) t = refl
row-text (d ∷ (e ∷ ds)) t =
    pieces [] [] [] [] (written_of d) (bytes " ") (row (e ∷ ds)) t
    ∙ ap (λ (x : List ℕ). written_of d ++ (bytes " " ++ x)) (row-text (e ∷ ds) t)

value-text : (name : List ℕ) (ds : List Decimal) (ls : List (List ℕ)) → joined (value_line name ds ∷ ls) ≡ value_text name ds (joined ls)
unfolding value_text value_line joined
value-text name ds ls = pieces [] [] [] [] (opening name) (row ds) (closing name) (line_feed ∷ joined ls) ∙ (rw (opening-text, row-text, closing-text))

rows-text : (n c : ℕ) (ds : List Decimal) (ls : List (List ℕ)) → joined (row_lines n c ds ++ ls) ≡ rows_text n c ds (joined ls)
unfolding rows_text row_lines joined
rows-text zero c ds ls = refl
rows-text (suc n) c ds ls = row-text (take c ds) _ ∙ (rw (rows-text n c (drop c ds) ls))

-- the text of `dim` in front of what follows it
pub dims-text : (ns t : List ℕ) → dims ns ++ t ≡ dims_text ns t
unfolding dims_text dims
dims-text [] t = refl
dims-text (n ∷ []) t = refl
dims-text (n ∷ (k ∷ ns)) t =
    pieces [] [] [] [] (digits n) (bytes " ") (dims (k ∷ ns)) t
    ∙ ap (λ (x : List ℕ). digits n ++ (bytes " " ++ x)) (dims-text (k ∷ ns) t)

array-line : (ns : List ℕ) (ls : List (List ℕ)) → joined (array_line ns ∷ ls) ≡ bytes "<Array dim=\"" ++ dims_text ns (bytes "\">\n" ++ joined ls)
unfolding array_line joined
array-line ns ls =
    pieces [] [] [] [] (bytes "<Array") (attribute (bytes "dim") (dims ns)) (bytes ">") (line_feed ∷ joined ls)
    ∙ (rw (attribute-text, dims-text))

array-text : (ns : List ℕ) (n c : ℕ) (ds : List Decimal) (ls : List (List ℕ)) → joined (array_lines ns n c ds ++ ls) ≡ array_text ns n c ds (joined ls)
unfolding array_text lines_text array_lines
array-text ns n c ds ls =
    enclosed (array_line ns) (row_lines n c ds) (closing (bytes "Array")) ls
    ∙ array-line ns (row_lines n c ds ++ (closing (bytes "Array") ∷ ls))
    ∙ (rw (rows-text, closing-line))

range-text : (ds : List Decimal) (ls : List (List ℕ)) → joined (range_lines ds ++ ls) ≡ range_text ds (joined ls)
unfolding range_text range_lines
range-text ds ls = simp value-text

one-end-text : (end : RangeEnd) (ds : List Decimal) (ls : List (List ℕ)) → joined (one_end_lines end ds ++ ls) ≡ one_end_text end ds (joined ls)
unfolding one_end_text pair_text one_end_lines
one-end-text Minimum ds ls = simp value-text
one-end-text Maximum ds ls = simp value-text

cdl-text : (ds : List Decimal) (ls : List (List ℕ)) → joined (cdl_lines ds ++ ls) ≡ sop_text ds (sat_text ds (joined ls))
unfolding sop_text sat_text cdl_lines
cdl-text ds ls = simp (opening-line, closing-line, value-text)

content-text : (k : Kind) (ds : List Decimal) (ls : List (List ℕ)) → joined (content_lines k ds ++ ls) ≡ content_text k ds (joined ls)
unfolding content_text content_lines table_lines cube_lines
content-text (Matrix wide) ds ls = array-text (matrix_rows ∷ matrix_columns wide ∷ []) matrix_rows (matrix_columns wide) ds ls
content-text (Lut1d entries columns) ds ls = array-text (entries ∷ columns ∷ []) entries columns ds ls
content-text (Range style) ds ls = range-text ds ls
content-text (Cdl style) ds ls = cdl-text ds ls
content-text (Lut3d points interpolation) ds ls = array-text (points ∷ points ∷ points ∷ 3 ∷ []) (cube_entries points) 3 ds ls
content-text (OneEnd end) ds ls = one-end-text end ds ls

id-text : (id t : List ℕ) → id_attribute id ++ t ≡ node_id_text id t
unfolding id_attribute node_id_text
id-text [] t = refl
id-text (b ∷ s) t = attribute-text (bytes "id") (b ∷ s) t

start-text : (k : Kind) (i o : Depth) (id : List ℕ) (ls : List (List ℕ)) → joined (start_line k i o id ∷ ls) ≡ start_text k i o id (joined ls)
unfolding start_text start_line joined
start-text k i o id ls =
    pieces (bytes "<") (name_text k) (attribute (bytes "inBitDepth") (depth_text i)) (attribute (bytes "outBitDepth") (depth_text o)) (id_attribute id) (style_text k) (bytes ">") (line_feed ∷ joined ls)
    ∙ (rw (attribute-text, attribute-text, id-text))

end-text : (k : Kind) (ls : List (List ℕ)) → joined (closing (name_text k) ∷ ls) ≡ end_text k (joined ls)
unfolding end_text
end-text k ls = closing-line (name_text k) ls

node-text : (e : Element) (ls : List (List ℕ)) → joined (node_lines e ++ ls) ≡ node_text e (joined ls)
unfolding node_text node_lines
node-text e ls =
    enclosed (start_line e.kind e.input e.output e.id) (content_lines e.kind e.numbers) (closing (name_text e.kind)) ls
    ∙ (rw (start-text, content-text, end-text))

nodes-text : (es : List Element) (ls : List (List ℕ)) → joined (nodes_lines es ++ ls) ≡ nodes_text es (joined ls)
unfolding nodes_text nodes_lines
nodes-text [] ls = refl
nodes-text (e ∷ es) ls = rw (append_assoc, node-text, nodes-text es ls)

root_line_lem : (id : List ℕ) (ls : List (List ℕ)) → joined (root_line id ∷ ls) ≡ bytes "<ProcessList id=\"" ++ (id ++ (bytes "\" compCLFversion=\"3.0\">\n" ++ joined ls))
unfolding root_line joined
root_line_lem id ls =
    pieces [] [] [] (bytes "<ProcessList") (attribute (bytes "id") id) (attribute (bytes "compCLFversion") (bytes "3.0")) (bytes ">") (line_feed ∷ joined ls)
    ∙ (rw (attribute-text, attribute-text))

declared : (ls : List (List ℕ)) → joined (declaration ∷ ls) ≡ declaration ++ (line_feed ∷ joined ls)
unfolding joined
declared ls = refl

last_line : joined (closing (bytes "ProcessList") ∷ []) ≡ bytes "</ProcessList>\n"
unfolding joined closing
last_line = refl

-- THE TEXT OF THE LINES
pub list-text : (id : List ℕ) (es : List Element) → list_text id es ≡ joined (list_lines id es)
unfolding list_text head_text list_lines
list-text id es = rw (declared, root_line_lem, nodes-text, last_line)
