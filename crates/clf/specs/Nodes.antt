-- The five carried nodes (document 01, The file we carry; the fifth, LUT3D, document 02, W-201): each is the grammar of what stands behind `<` and its name.
use Rattle.std.specs.Prelude.{Bool, true, false, cond, not, ◌&&◌, ◌||◌, List, [], ◌∷◌, ◌++◌, ℕ, ◌+◌, ◌-◌, ◌*◌, eqb, leb, ltb, pos, length, get_or, set}
use Rattle.std.proofs.Math.Option.{Option, none, some}
use Prim.Native.Char.{code}
use Rattle.decimal.specs.declared.Decimal.{Decimal}
use Rattle.decimal.specs.Decimal as Decimals
use Rattle.decimal_value.specs.Value.{less, at_most, equal}
use Rattle.decimal_write.specs.Written.{digits}
use Rattle.process_list.specs.declared.Depth.{Depth}
use Rattle.process_list.specs.declared.Depth.TheVariants.{I8, I10, I12, I16, F16, F32}
use Rattle.process_list.specs.declared.RangeStyle.{RangeStyle}
use Rattle.process_list.specs.declared.RangeStyle.TheVariants.{Clamp, NoClamp}
use Rattle.process_list.specs.declared.RangeEnd.{RangeEnd}
use Rattle.process_list.specs.declared.RangeEnd.TheVariants.{Minimum, Maximum}
use Rattle.process_list.specs.declared.CdlStyle.{CdlStyle}
use Rattle.process_list.specs.declared.CdlStyle.TheVariants.{Fwd, FwdNoClamp}
use Rattle.process_list.specs.declared.Interpolation.{Interpolation}
use Rattle.process_list.specs.declared.Interpolation.TheVariants.{Trilinear, Tetrahedral}
use Rattle.process_list.specs.declared.Kind.{Kind}
use Rattle.process_list.specs.declared.Kind.TheVariants.{Matrix, Lut1d, Range, Cdl, Lut3d, OneEnd}
use Rattle.process_list.specs.List.{Element, numbers_of, most_entries, most_points, same_depth, range_clamps}
use Rattle.grammar.specs.Grammar.{G, ret, bad, seq, ◌>>=◌, ◌>>◌}
use Rattle.xml.specs.Bytes.{bytes, same, is_digit}
use Rattle.xml.specs.Xml.{Attribute, is_named, text_of, Rules, Tag, start_tag}
use Rattle.xml.specs.Elements.{Holder, held, text_element}
use Rattle.clf.specs.Numbers.{numbers, any_number, not_below_zero, must_be_one, value_element}
use Rattle.ids.specs.Ids.{id_right, most_node_id_bytes}
use Rattle.refusals.specs.Refusals as Refusal

abbrev pub is_some : {A : Type 0} → Option A → Bool
is_some none = false
is_some (some a) = true

abbrev pub or_else : {A : Type 0} → A → Option A → A
or_else a none = a
or_else a (some b) = b

-- ---- '`inBitDepth`, `outBitDepth` from 8i, 10i, 12i, 16i, 16f, 32f'

unfoldable pub depth_of : List ℕ → Option Depth
depth_of t =
    cond (same t (bytes "8i")) (some I8)
    (cond (same t (bytes "10i")) (some I10)
    (cond (same t (bytes "12i")) (some I12)
    (cond (same t (bytes "16i")) (some I16)
    (cond (same t (bytes "16f")) (some F16)
    (cond (same t (bytes "32f")) (some F32) none)))))

-- a text that is no depth is 8, on these two attributes; '24 for an id that is not 1 to 32 bytes of letters, digits, `-`, `_`, `.`, at the value' (02, W-203); others are judged by `rest`
abbrev pub node_texts : (List ℕ → List ℕ → ℕ) → List ℕ → List ℕ → ℕ
node_texts rest w t =
    cond (same w (bytes "inBitDepth") || same w (bytes "outBitDepth")) (cond (is_some (depth_of t)) 0 Refusal.wrong_attribute)
    (cond (same w (bytes "id")) (cond (id_right most_node_id_bytes t) 0 Refusal.wrong_node_id) (rest w t))

-- one of the two that is missing is 8
abbrev pub node_missing : List Attribute → ℕ
node_missing l = cond (is_named (bytes "inBitDepth") l && is_named (bytes "outBitDepth") l) 0 Refusal.wrong_attribute

-- the depth of the attribute of this name. It is there and right, or the start tag is at fault (`node_missing`, `node_texts`): the default is never taken
abbrev pub depth_at : List ℕ → List Attribute → Depth
depth_at w l = or_else I8 (depth_of (text_of w l))

-- the node of these attributes and this content: what the list holds of it. Its id is the text of its `id`, no bytes where it has none (02, W-203). Its Descriptions are passed over
abbrev pub element_with : List Attribute → Kind → List Decimal → Element
element_with l kind ns = record {
  kind = kind;
  input = depth_at (bytes "inBitDepth") l;
  output = depth_at (bytes "outBitDepth") l;
  id = text_of (bytes "id") l;
  numbers = ns;
}

-- the rules of a node's start tag; one that may not be empty lacks an element: 5 at the `/>`, the lowest there
abbrev pub node_rules : (List ℕ → ℕ) → (List ℕ → List ℕ → ℕ) → Rules
node_rules names texts = record { names = names; texts = node_texts texts; opened = node_missing; emptied = λ l. Refusal.wrong_element }

-- ---- Array

-- 'one Array, `dim` "3 3" or "3 4"'
unfoldable pub matrix_shape : List ℕ → Option Kind
matrix_shape t = cond (same t (bytes "3 3")) (some (Matrix false)) (cond (same t (bytes "3 4")) (some (Matrix true)) none)

-- the digits that a text begins with, as a whole number behind the number n, and what stands behind them
abbrev pub whole_from : ℕ → List ℕ → ℕ
whole_from n [] = n
whole_from n (b ∷ t) = let more : ℕ = whole_from (n * 10 + (b - code "0")) t in cond (is_digit b) more n

abbrev pub behind_digits : List ℕ → List ℕ
behind_digits [] = []
behind_digits (b ∷ t) = let more : List ℕ = behind_digits t in cond (is_digit b) more (b ∷ t)

abbrev pub begins_with_zero : List ℕ → Bool
begins_with_zero [] = false
begins_with_zero (b ∷ t) = eqb b (code "0")

-- what stands behind the digits: one space and the columns, 1 or 3; 0 where it is neither
unfoldable pub lut_columns : List ℕ → ℕ
lut_columns t = cond (same t (bytes " 1")) 1 (cond (same t (bytes " 3")) 3 0)

-- '`dim` n and 1 or 3 (digits, no leading zero, one space), n from 2 to 65,536'
unfoldable pub lut_shape : List ℕ → Option Kind
lut_shape t =
    let n = whole_from 0 t in
    let c = lut_columns (behind_digits t) in
    cond (not (begins_with_zero t) && (leb 2 n && (leb n most_entries && ltb 0 c))) (some (Lut1d n c)) none

-- the text "n n n 3": whole numbers without leading zeros, one space between them
unfoldable pub cube_dim : ℕ → List ℕ
cube_dim n = digits n ++ bytes " " ++ digits n ++ bytes " " ++ digits n ++ bytes " 3"

-- W-201: 'Array `dim` "n n n 3" with n from 2 to 33', for a LUT3D of this method: n is the whole number that the text begins with
unfoldable pub cube_shape : Interpolation → List ℕ → Option Kind
cube_shape interpolation t =
    let n = whole_from 0 t in
    cond (leb 2 n && (leb n most_points && same t (cube_dim n))) (some (Lut3d n interpolation)) none

-- another `dim`, or none, is 8; an empty Array has too few numbers
abbrev pub array_rules : (List ℕ → Option Kind) → Rules
array_rules shape = record {
  names = λ w. 0;
  texts = λ w t. cond (same w (bytes "dim")) (cond (is_some (shape t)) 0 Refusal.wrong_attribute) 0;
  opened = λ l. cond (is_named (bytes "dim") l) 0 Refusal.wrong_attribute;
  emptied = λ l. cond (is_named (bytes "dim") l) Refusal.wrong_count Refusal.wrong_attribute;
}

-- a table: its shape and its numbers
abbrev pub Table : Type 0
Table = Kind × List Decimal

-- the numbers of an Array of this shape. A `dim` of no shape is 8 in the start tag already, so that `none` does not come here
abbrev pub array_of : Option Kind → G Table
array_of none = bad Refusal.wrong_attribute
array_of (some k) = seq (numbers (bytes "Array") (numbers_of k) any_number) (λ l. ret (k, l))

unfoldable pub array : (List ℕ → Option Kind) → G Table
array shape = seq (start_tag (array_rules shape)) (λ tag. array_of (shape (text_of (bytes "dim") tag.attributes)))

-- ---- Matrix, LUT1D and LUT3D: Descriptions, then one Array

pub record ArrayState : Type 0 where
  pub table : Option Table

abbrev pub no_array : ArrayState
no_array = record { table = none }

abbrev pub array_body : (List ℕ → Option Kind) → ArrayState → List ℕ → G ArrayState
array_body shape st w =
    cond (same w (bytes "Array"))
    (seq (array shape) (λ t. ret (record { table = some t })))
    (text_element w >> ret st)

-- 'Descriptions come first in it': behind the Array nothing may stand
abbrev pub array_holder : List ℕ → (List ℕ → Option Kind) → Holder ArrayState
array_holder w shape = record {
  name = w;
  missing = λ st. cond (is_some st.table) 0 Refusal.wrong_element;
  fault = λ st v. cond (is_some st.table) Refusal.wrong_element (cond (same v (bytes "Array") || same v (bytes "Description")) 0 Refusal.wrong_element);
  body = array_body shape;
}

-- the node of a table. An Array that is missing is 5 at the end tag (`array_holder`): the default is never taken
abbrev pub table_node : List Attribute → ArrayState → Element
table_node l st = let t = or_else (Matrix false, []) st.table in element_with l t.0 t.1

unfoldable pub matrix : G Element
matrix = do
  tag ← start_tag (node_rules (λ w. 0) (λ w t. 0))
  st ← held (array_holder (bytes "Matrix") matrix_shape) no_array
  ret (table_node tag.attributes st)

-- 'halfDomain and rawHalfs on a LUT1D' are known but not carried: 7 at the attribute
abbrev pub lut_names : List ℕ → ℕ
lut_names w = cond (same w (bytes "halfDomain") || same w (bytes "rawHalfs")) Refusal.not_carried 0

-- '`interpolation`, if there, is "linear"'
abbrev pub lut_texts : List ℕ → List ℕ → ℕ
lut_texts w t = cond (same w (bytes "interpolation")) (cond (same t (bytes "linear")) 0 Refusal.wrong_attribute) 0

unfoldable pub lut1d : G Element
lut1d = do
  tag ← start_tag (node_rules lut_names lut_texts)
  st ← held (array_holder (bytes "LUT1D") lut_shape) no_array
  ret (table_node tag.attributes st)

-- W-201: '`interpolation` "trilinear" (when absent) or "tetrahedral"', another text is 8
abbrev pub cube_texts : List ℕ → List ℕ → ℕ
cube_texts w t = cond (same w (bytes "interpolation")) (cond (same t (bytes "trilinear") || same t (bytes "tetrahedral")) 0 Refusal.wrong_attribute) 0

-- the method by its text, which has been judged: what is not "tetrahedral" is "trilinear", or absent
abbrev pub interpolation_of : List ℕ → Interpolation
interpolation_of t = cond (same t (bytes "tetrahedral")) Tetrahedral Trilinear

-- the shape of the Array of a LUT3D with these attributes: its method is in the tag, its n in the Array
abbrev pub cube_shape_by : List Attribute → List ℕ → Option Kind
cube_shape_by l = cube_shape (interpolation_of (text_of (bytes "interpolation") l))

unfoldable pub lut3d : G Element
lut3d = do
  tag ← start_tag (node_rules (λ w. 0) cube_texts)
  st ← held (array_holder (bytes "LUT3D") (cube_shape_by tag.attributes)) no_array
  ret (table_node tag.attributes st)

-- ---- Range: 'minInValue, maxInValue, minOutValue, maxOutValue, each once, any order', or one pair of them alone (02, W-202)

-- the index of a value by its name, in the order in which a Range with four values holds them; 4 is none
unfoldable pub range_index : List ℕ → ℕ
range_index w =
    cond (same w (bytes "minInValue")) 0
    (cond (same w (bytes "maxInValue")) 1
    (cond (same w (bytes "minOutValue")) 2
    (cond (same w (bytes "maxOutValue")) 3 4)))

pub record RangeState : Type 0 where
  pub values : List (Option Decimal)

abbrev pub no_values : RangeState
no_values = record { values = none ∷ none ∷ none ∷ none ∷ [] }

-- whether the value of index i has been there; the indices are 0 to 3, so that `none` behind the list's end is never taken
abbrev pub is_there : ℕ → RangeState → Bool
is_there i st = is_some (get_or st.values i none)

-- the value of index i. It is asked for at the end tag, of values that are there (`range_missing`): the default is never taken
abbrev pub value_at : ℕ → RangeState → Decimal
value_at i st = or_else Decimals.zero (get_or st.values i none)

abbrev pub any_there : RangeState → Bool
any_there st = is_there 0 st || (is_there 1 st || (is_there 2 st || is_there 3 st))

abbrev pub all_there : RangeState → Bool
all_there st = is_there 0 st && (is_there 1 st && (is_there 2 st && is_there 3 st))

-- 'maxIn > minIn; maxOut ≥ minOut'
abbrev pub in_order : RangeState → Bool
in_order st = less (value_at 0 st) (value_at 1 st) && at_most (value_at 2 st) (value_at 3 st)

-- which children may stand there, judged at their `<`: 'Descriptions come first', then each value 'once'; anything else is 5
abbrev pub range_fault : RangeState → List ℕ → ℕ
range_fault st w =
    cond (same w (bytes "Description")) (cond (any_there st) Refusal.wrong_element 0)
    (cond (ltb (range_index w) 4) (cond (is_there (range_index w) st) Refusal.wrong_element 0) Refusal.wrong_element)

-- the number of a value element, which has exactly one (`value_element w 1`): an empty list does not come here
abbrev pub only_number : List Decimal → Decimal
only_number [] = Decimals.zero
only_number (d ∷ l) = d

abbrev pub range_body : RangeState → List ℕ → G RangeState
range_body st w =
    cond (same w (bytes "Description"))
    (text_element w >> ret st)
    (seq (value_element w 1 any_number) (λ l. ret (record { values = set st.values (range_index w) (some (only_number l)) })))

-- the pair of an end (W-202): the index of its in value, and of its out value
abbrev pub in_of : RangeEnd → ℕ
in_of Minimum = 0
in_of Maximum = 1

abbrev pub out_of : RangeEnd → ℕ
out_of Minimum = 2
out_of Maximum = 3

-- the end that is not this one
abbrev pub other_end : RangeEnd → RangeEnd
other_end Minimum = Maximum
other_end Maximum = Minimum

-- W-202: 'only the minimum or only the maximum pair': both values of this end are there, and none of the other's
unfoldable pub only_pair : RangeEnd → RangeState → Bool
only_pair e st = (is_there (in_of e) st && is_there (out_of e) st) && not (is_there (in_of (other_end e)) st || is_there (out_of (other_end e)) st)

-- 'equal .. the in and out value', as f64
unfoldable pub pair_equal : RangeEnd → RangeState → Bool
pair_equal e st = equal (value_at (in_of e) st) (value_at (out_of e) st)

-- at the end tag of a Range with this pair alone: 'unequal depths or noClamp with one pair is 7, unequal values 21'. `allowed` says of the start tag that its depths are equal and its style is Clamp
unfoldable pub one_end_fault : Bool → RangeEnd → RangeState → ℕ
one_end_fault allowed e st = cond allowed (cond (pair_equal e st) 0 Refusal.rule_broken) Refusal.not_carried

-- judged at the end tag. All four values: 21 if they break 'a node's rule on two values'. One pair alone (W-202): as above. Else, three values included, 'half a pair or no pair is 5'
unfoldable pub range_missing : Bool → RangeState → ℕ
range_missing allowed st =
    cond (all_there st) (cond (in_order st) 0 Refusal.rule_broken)
    (cond (only_pair Minimum st) (one_end_fault allowed Minimum st)
    (cond (only_pair Maximum st) (one_end_fault allowed Maximum st) Refusal.wrong_element))

-- the content of a Range whose start tag would allow one pair alone, or not
abbrev pub range_holder : Bool → Holder RangeState
range_holder allowed = record { name = bytes "Range"; missing = range_missing allowed; fault = range_fault; body = range_body }

-- '`style` "Clamp" (when absent) or "noClamp"'
abbrev pub range_texts : List ℕ → List ℕ → ℕ
range_texts w t = cond (same w (bytes "style")) (cond (same t (bytes "Clamp") || same t (bytes "noClamp")) 0 Refusal.wrong_attribute) 0

-- the style by its text, which has been judged: what is not "noClamp" is "Clamp", or absent
abbrev pub range_style : List ℕ → RangeStyle
range_style t = cond (same t (bytes "noClamp")) NoClamp Clamp

abbrev pub style_at : List Attribute → RangeStyle
style_at l = range_style (text_of (bytes "style") l)

-- W-202: 'Carry it with style Clamp where the depths are equal': the depths themselves, so that 16f and 32f differ
unfoldable pub one_end_allowed : RangeStyle → Depth → Depth → Bool
one_end_allowed style input output = range_clamps style && same_depth input output

-- the same of a start tag with these attributes
unfoldable pub one_end_allowed_by : List Attribute → Bool
one_end_allowed_by l = one_end_allowed (style_at l) (depth_at (bytes "inBitDepth") l) (depth_at (bytes "outBitDepth") l)

-- a Range with four values, 'in the order above'
abbrev pub four_node : List Attribute → RangeState → Element
four_node l st = element_with l (Range (style_at l)) (value_at 0 st ∷ value_at 1 st ∷ value_at 2 st ∷ value_at 3 st ∷ [])

-- a Range with one end: 'Such a node holds two numbers', its in value and its out value
abbrev pub one_end_node : List Attribute → RangeEnd → RangeState → Element
one_end_node l e st = element_with l (OneEnd e) (value_at (in_of e) st ∷ value_at (out_of e) st ∷ [])

-- the node by the values that are there; where they are not all four, they are one pair, or the end tag is at fault (`range_missing`)
abbrev pub range_node : List Attribute → RangeState → Element
range_node l st = cond (all_there st) (four_node l st) (cond (only_pair Minimum st) (one_end_node l Minimum st) (one_end_node l Maximum st))

unfoldable pub range : G Element
range = do
  tag ← start_tag (node_rules (λ w. 0) range_texts)
  st ← held (range_holder (one_end_allowed_by tag.attributes)) no_values
  ret (range_node tag.attributes st)

-- ---- ASC_CDL: 'optional SOPNode (Slope, Offset, Power in this order, three numbers each), then optional SatNode (Saturation)'

-- an element that may not be empty: 5 at the `/>`
abbrev pub not_empty_rules : Rules
not_empty_rules = record { names = λ w. 0; texts = λ w t. 0; opened = λ l. 0; emptied = λ l. Refusal.wrong_element }

-- the element that follows so many numbers in a SOPNode: each adds three, so that there are 0, 3, 6 or 9. Behind 9 none may follow, and no name is empty
abbrev pub sop_name : ℕ → List ℕ
sop_name n = cond (eqb n 0) (bytes "Slope") (cond (eqb n 3) (bytes "Offset") (cond (eqb n 6) (bytes "Power") []))

-- the rule on its numbers
abbrev pub sop_rule : ℕ → Decimal → ℕ
sop_rule n = cond (eqb n 0) not_below_zero (cond (eqb n 3) any_number must_be_one)

abbrev pub sop_holder : Holder (List Decimal)
sop_holder = record {
  name = bytes "SOPNode";
  missing = λ l. cond (ltb (length l) 9) Refusal.wrong_element 0;
  fault = λ l w. cond (same w (sop_name (length l))) 0 Refusal.wrong_element;
  body = λ l w. seq (value_element w 3 (sop_rule (length l))) (λ m. ret (l ++ m));
}

unfoldable pub sop_node : G (List Decimal)
sop_node = start_tag not_empty_rules >> held sop_holder []

abbrev pub sat_holder : Holder (List Decimal)
sat_holder = record {
  name = bytes "SatNode";
  missing = λ l. cond (ltb (length l) 1) Refusal.wrong_element 0;
  fault = λ l w. cond (ltb (length l) 1) (cond (same w (bytes "Saturation")) 0 Refusal.wrong_element) Refusal.wrong_element;
  body = λ l w. seq (value_element w 1 not_below_zero) (λ m. ret (l ++ m));
}

unfoldable pub sat_node : G (List Decimal)
sat_node = start_tag not_empty_rules >> held sat_holder []

pub record CdlState : Type 0 where
  pub sop : Option (List Decimal)
  pub sat : Option (List Decimal)

abbrev pub no_cdl : CdlState
no_cdl = record { sop = none; sat = none }

-- which children may stand there, judged at their `<`: 'Descriptions come first', then SOPNode, then SatNode, each once; anything else is 5
abbrev pub cdl_fault : CdlState → List ℕ → ℕ
cdl_fault st w =
    cond (same w (bytes "Description")) (cond (is_some st.sop || is_some st.sat) Refusal.wrong_element 0)
    (cond (same w (bytes "SOPNode")) (cond (is_some st.sop || is_some st.sat) Refusal.wrong_element 0)
    (cond (same w (bytes "SatNode")) (cond (is_some st.sat) Refusal.wrong_element 0) Refusal.wrong_element))

abbrev pub cdl_body : CdlState → List ℕ → G CdlState
cdl_body st w =
    cond (same w (bytes "SOPNode")) (seq sop_node (λ l. ret (record { sop = some l; sat = st.sat })))
    (cond (same w (bytes "SatNode")) (seq sat_node (λ l. ret (record { sop = st.sop; sat = some l })))
    (text_element w >> ret st))

abbrev pub cdl_holder : Holder CdlState
cdl_holder = record { name = bytes "ASC_CDL"; missing = λ st. 0; fault = cdl_fault; body = cdl_body }

-- '`style` "Fwd" (when absent) or "FwdNoClamp"'; Rev and RevNoClamp are known but not carried: 7
abbrev pub cdl_texts : List ℕ → List ℕ → ℕ
cdl_texts w t =
    cond (same w (bytes "style"))
    (cond (same t (bytes "Fwd") || same t (bytes "FwdNoClamp")) 0
    (cond (same t (bytes "Rev") || same t (bytes "RevNoClamp")) Refusal.not_carried Refusal.wrong_attribute)) 0

-- 'Absent parts read as 1, 0, 1 and 1'
abbrev pub one_number : Decimal
one_number = record { coefficient = pos 1; power = pos 0 }

abbrev pub three_times : Decimal → List Decimal
three_times d = d ∷ d ∷ d ∷ []

abbrev pub sop_numbers : CdlState → List Decimal
sop_numbers st = or_else (three_times one_number ++ three_times Decimals.zero ++ three_times one_number) st.sop

abbrev pub sat_numbers : CdlState → List Decimal
sat_numbers st = or_else (one_number ∷ []) st.sat

-- the style by its text, which has been judged: what is not "FwdNoClamp" is "Fwd", or absent
abbrev pub cdl_style : List ℕ → CdlStyle
cdl_style t = cond (same t (bytes "FwdNoClamp")) FwdNoClamp Fwd

abbrev pub cdl_node : List Attribute → CdlState → Element
cdl_node l st = element_with l (Cdl (cdl_style (text_of (bytes "style") l))) (sop_numbers st ++ sat_numbers st)

-- an ASC_CDL may be empty
abbrev pub cdl_rules : Rules
cdl_rules = record { names = λ w. 0; texts = node_texts cdl_texts; opened = node_missing; emptied = node_missing }

abbrev pub cdl_content : Tag → G CdlState
cdl_content tag = cond tag.empty (ret no_cdl) (held cdl_holder no_cdl)

unfoldable pub asc_cdl : G Element
asc_cdl = do
  tag ← start_tag cdl_rules
  st ← cdl_content tag
  ret (cdl_node tag.attributes st)

-- ---- a node by its name

-- the names of the nodes, carried or not
pub data NodeName : Type 0 where
  is_matrix : NodeName
  is_lut1d : NodeName
  is_range : NodeName
  is_cdl : NodeName
  is_lut3d : NodeName
  not_carried : NodeName
  no_node : NodeName

-- 'the seven node names (carried or not)', each with what it names; 'Known but not carried: Log, Exponent', and no longer LUT3D (W-201)
abbrev pub node_names : List (List ℕ × NodeName)
node_names =
    (bytes "Matrix", is_matrix) ∷ (bytes "LUT1D", is_lut1d) ∷ (bytes "Range", is_range) ∷ (bytes "ASC_CDL", is_cdl)
    ∷ (bytes "Log", not_carried) ∷ (bytes "Exponent", not_carried) ∷ (bytes "LUT3D", is_lut3d) ∷ []

abbrev pub named_in : List (List ℕ × NodeName) → List ℕ → NodeName
named_in [] w = no_node
named_in (x ∷ l) w = let more : NodeName = named_in l w in cond (same w x.0) x.1 more

unfoldable pub node_name : List ℕ → NodeName
node_name w = named_in node_names w

abbrev pub node_fault : NodeName → ℕ
node_fault is_matrix = 0
node_fault is_lut1d = 0
node_fault is_range = 0
node_fault is_cdl = 0
node_fault is_lut3d = 0
node_fault not_carried = Refusal.not_carried
node_fault no_node = Refusal.wrong_element

-- a node after its name. One that is not carried, and a name that is none, is at fault at its `<` already (`node_fault`): the last two are never taken
abbrev pub node_body : NodeName → G Element
node_body is_matrix = matrix
node_body is_lut1d = lut1d
node_body is_range = range
node_body is_cdl = asc_cdl
node_body is_lut3d = lut3d
node_body not_carried = bad Refusal.not_carried
node_body no_node = bad Refusal.wrong_element
