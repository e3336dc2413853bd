-- The pieces of an answer (tests/PROTOCOL.md): `NUM PLACE`; of STATE a node, `;KIND,IN,OUT,STYLE,SHAPE,AT,NEWEST,ID`, and a number, `coefficient:power`. Definitions only.
-- Each text is written in front of what follows it: `shown_node n t` is the text of the node n, then t.
use Rattle.std.specs.Prelude.{Bool, cond, List, [], ◌∷◌, ◌++◌, ℕ, ℤ}
use Rattle.decimal_write.specs.Written.{digits, whole_text}
use Rattle.process_list.specs.declared.Depth.{Depth}
use Rattle.process_list.specs.declared.RangeEnd.{RangeEnd}
use Rattle.process_list.specs.declared.RangeEnd.TheVariants.{Minimum, Maximum}
use Rattle.process_list.specs.declared.Interpolation.{Interpolation}
use Rattle.process_list.specs.declared.Interpolation.TheVariants.{Trilinear, Tetrahedral}
use Rattle.process_list.specs.declared.Kind.{Kind}
use Rattle.process_list.specs.declared.Kind.TheVariants.{Matrix, Lut1d, Range, Cdl, Lut3d, OneEnd}
use Rattle.process_list.specs.declared.Node.{Node}
use Rattle.process_list.specs.List.{range_clamps, cdl_clamps}
use Rattle.xml.specs.Bytes.{bytes}
use Rattle.written_form.specs.Written.{depth_text, name_text}
use Rattle.ids.specs.Ids.{id_text}
use Rattle.shell_text.specs.Hex.{pair_text}

-- `NUM PLACE`
unfoldable pub shown_answer : ℕ → ℕ → List ℕ → List ℕ
shown_answer number place t = digits number ++ (bytes " " ++ (digits place ++ t))

-- `,IN,OUT,`
unfoldable pub shown_depths : Depth → Depth → List ℕ → List ℕ
shown_depths input output t = bytes "," ++ (depth_text input ++ (bytes "," ++ (depth_text output ++ (bytes "," ++ t))))

unfoldable pub one_of_two : Bool → List ℕ → List ℕ → List ℕ
one_of_two first this other = cond first this other

-- `STYLE,SHAPE` of a table of so many entries and columns: 'style `-` for Matrix and LUT1D', shape as `65x3`
unfoldable pub table_text : ℕ → ℕ → List ℕ → List ℕ
table_text entries columns t = bytes "-," ++ (digits entries ++ (bytes "x" ++ (digits columns ++ t)))

-- STYLE of a LUT3D: its method
abbrev pub method_text : Interpolation → List ℕ
method_text Trilinear = bytes "trilinear,"
method_text Tetrahedral = bytes "tetrahedral,"

-- SHAPE of a LUT3D of n entries on each axis, as `17x17x17x3`
unfoldable pub cube_text : ℕ → List ℕ → List ℕ
cube_text n t = digits n ++ (bytes "x" ++ (digits n ++ (bytes "x" ++ (digits n ++ (bytes "x3" ++ t)))))

-- `STYLE,SHAPE` of a Range with one end
abbrev pub one_end_text : RangeEnd → List ℕ
one_end_text Minimum = bytes "Clamp,min"
one_end_text Maximum = bytes "Clamp,max"

-- `STYLE,SHAPE`: 'shape `3x3`, `3x4`, `65x3`, `17x17x17x3`, `min` or `max` for a Range with one pair, and `-` for one with four values and for ASC_CDL'
unfoldable pub form_text : Kind → List ℕ → List ℕ
form_text (Matrix wide) t = one_of_two wide (bytes "-,3x4") (bytes "-,3x3") ++ t
form_text (Lut1d entries columns) t = table_text entries columns t
form_text (Range style) t = one_of_two (range_clamps style) (bytes "Clamp,-") (bytes "noClamp,-") ++ t
form_text (Cdl style) t = one_of_two (cdl_clamps style) (bytes "Fwd,-") (bytes "FwdNoClamp,-") ++ t
form_text (Lut3d points interpolation) t = method_text interpolation ++ cube_text points t
form_text (OneEnd end) t = one_end_text end ++ t

-- `AT,NEWEST`: 'AT the index of its first number', 'NEWEST the number of the newest numbered replacement accepted there'
unfoldable pub place_text : ℕ → ℕ → List ℕ → List ℕ
place_text at newest t = digits at ++ (bytes "," ++ (digits newest ++ t))

-- bytes as hex digits, two a byte
unfoldable pub hex_text : List ℕ → List ℕ → List ℕ
hex_text [] t = t
hex_text (b ∷ s) t = pair_text b ++ hex_text s t

-- ID: 'its id in hex, `-` for none'
unfoldable pub id_shown : List ℕ → List ℕ → List ℕ
id_shown [] t = bytes "-" ++ t
id_shown (b ∷ s) t = hex_text (b ∷ s) t

-- `;KIND,IN,OUT,STYLE,SHAPE,AT,NEWEST,ID`
unfoldable pub shown_node : Node → List ℕ → List ℕ
shown_node n t =
    bytes ";"
    ++ (name_text n.kind
    ++ shown_depths n.input n.output (form_text n.kind (bytes "," ++ place_text n.at n.newest (bytes "," ++ id_shown (id_text n.id) t))))

-- `coefficient:power`
unfoldable pub decimal_text : ℤ → ℤ → List ℕ → List ℕ
decimal_text coefficient power t = whole_text coefficient ++ (bytes ":" ++ (whole_text power ++ t))
