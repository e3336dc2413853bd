-- Names of nodes (document 02, W-203): files with what reading answers, and lists of two nodes that are a reading or 16. Most tell apart two ways in which the paragraph could be read.
use Rattle.std.specs.Prelude.{Bool, true, false, List, [], ◌∷◌, ◌++◌, map, ℕ, ℤ, pos, replicate}
use Prim.Native.String.{String}
use Rattle.process_list.specs.declared.Depth.TheVariants.{F32}
use Rattle.process_list.specs.declared.CdlStyle.TheVariants.{Fwd}
use Rattle.process_list.specs.declared.Kind.TheVariants.{Cdl}
use Rattle.process_list.specs.declared.Node.{Node}
use Rattle.process_list.specs.declared.ProcessList.{ProcessList}
use Rattle.process_list.specs.declared.Unfit.TheVariants.{TooManyNodes, IdSeen}
use Rattle.std.specs.Prelude.{Err}
use Rattle.process_list.specs.List.{Verdict, Element, place_from, list_of, unplaced, blank_node}
use Rattle.room.specs.Room.{Room, lent}
use Rattle.valid.specs.Valid.{is_valid}
use Rattle.clf.specs.Reading.{read, reading_number, reading_place, nodes_in}
use Rattle.ids.specs.Ids.{held_id, no_id}
use Rattle.xml.specs.Bytes.{bytes}

-- ---- files

-- the smallest node, with these attributes behind its name
abbrev pub node : String → List ℕ
node attributes = bytes "<ASC_CDL" ++ bytes attributes ++ bytes "/>"

-- at 32f, with this attribute more
abbrev pub at32f : String → List ℕ
at32f attribute = bytes "<ASC_CDL inBitDepth=\"32f\" outBitDepth=\"32f\"" ++ bytes attribute ++ bytes "/>"

-- a file of these nodes; its ProcessList has the id `cam4`
abbrev pub file_of : List ℕ → List ℕ
file_of content = bytes "<?xml version=\"1.0\" encoding=\"UTF-8\"?><ProcessList id=\"cam4\" compCLFversion=\"3.0\">" ++ content ++ bytes "</ProcessList>"

-- what is asked: what reading the file into a room of this length answers
pub record Question : Type 0 where
  pub room : ℕ
  pub file : List ℕ

-- number and place, and the ids of the nodes of the list
pub record Answer : Type 0 where
  pub number : ℕ
  pub place : ℕ
  pub ids : List (List ℕ)

-- what reading answers: number, place and the ids, by 01's `read`
abbrev pub outcome : Question → Answer
outcome q = record {
  number = reading_number (read q.room q.file);
  place = reading_place (read q.room q.file);
  ids = map (λ (e : Element). e.id) (nodes_in (read q.room q.file));
}

-- a file of these nodes, read into room for 40 numbers: four ASC_CDL
abbrev pub in40 : List ℕ → Question
in40 content = record { room = 40; file = file_of content }

-- accepted is number 0 at place 0, with these ids
abbrev pub accepted : List (List ℕ) → Answer
accepted ids = record { number = 0; place = 0; ids = ids }

-- refused with this number at this place: no list, so no ids
abbrev pub refused : ℕ → ℕ → Answer
refused number place = record { number = number; place = place; ids = [] }

-- an id joins the list: anywhere in the tag, in either quotes, of one byte and of 32; 'A node without one stays legal'; it may equal the ProcessList's
unfoldable pub named : List Question
named =
    in40 (at32f " id=\"cam4\"")
    ∷ in40 (node " id='_' outBitDepth=\"32f\" inBitDepth=\"32f\"")
    ∷ in40 (at32f " id=\"abcdefghijklmnopqrstuvwxyz.-9A_Z\"")
    ∷ in40 (at32f "" ++ at32f " ID=\"a b\"" ++ at32f " id=\"x\"")
    ∷ []

unfoldable pub named_answers : List Answer
named_answers =
    accepted (bytes "cam4" ∷ [])
    ∷ accepted (bytes "_" ∷ [])
    ∷ accepted (bytes "abcdefghijklmnopqrstuvwxyz.-9A_Z" ∷ [])
    ∷ accepted ([] ∷ [] ∷ bytes "x" ∷ [])
    ∷ []

-- 'not 1 to 32 bytes of letters, digits, `-`, `_`, `.`, at the value': 33 bytes, no byte at all, a space, a colon, an & form; a byte or an & that may not stand in a text goes first; on a node not
-- carried 7; the same on the other kinds
unfoldable pub wrong : List Question
wrong =
    in40 (at32f " id=\"abcdefghijklmnopqrstuvwxyz.-9A_Zb\"")
    ∷ in40 (at32f " id=\"\"")
    ∷ in40 (at32f " id=\"cam 4\"")
    ∷ in40 (node " id=\"cam:4\" inBitDepth=\"9\"")
    ∷ in40 (node " inBitDepth=\"9\" id=\"cam:4\"")
    ∷ in40 (at32f " id=\"a&amp;b\"")
    ∷ in40 (at32f " id=\"a b<\"")
    ∷ in40 (at32f " id=\"a b&c\"")
    ∷ in40 (bytes "<Log id=\"a b\"/>")
    ∷ in40 (bytes "<Matrix id=\"a b\"")
    ∷ in40 (bytes "<LUT1D id=\"a b\"")
    ∷ in40 (bytes "<LUT3D id=\"a b\"")
    ∷ in40 (bytes "<Range id=\"a b\"")
    ∷ []

unfoldable pub wrong_answers : List Answer
wrong_answers =
    refused 24 130
    ∷ refused 24 130
    ∷ refused 24 130
    ∷ refused 24 95
    ∷ refused 8 103
    ∷ refused 24 130
    ∷ refused 2 133
    ∷ refused 3 133
    ∷ refused 7 82
    ∷ refused 24 94
    ∷ refused 24 93
    ∷ refused 24 93
    ∷ refused 24 93
    ∷ []

-- on every other tag an id is passed over, as document 01 passed over it: a ProcessList's need only not be empty, and on what stands in a node it may be anything
unfoldable pub passed : List Question
passed =
    record { room = 40; file = bytes "<?xml version=\"1.0\" encoding=\"UTF-8\"?><ProcessList id=\"my look\" compCLFversion=\"3.0\">" ++ at32f "" ++ bytes "</ProcessList>" }
    ∷ in40 (bytes "<ASC_CDL inBitDepth=\"32f\" outBitDepth=\"32f\"><Description id=\"a b\"/><SatNode id=\"\"><Saturation id=\"a b\">1</Saturation></SatNode></ASC_CDL>")
    ∷ in40 (bytes "<Matrix inBitDepth=\"32f\" outBitDepth=\"32f\" id=\"m\"><Array id=\"a b\" dim=\"3 3\">1 0 0 0 1 0 0 0 1</Array></Matrix>")
    ∷ []

unfoldable pub passed_answers : List Answer
passed_answers =
    accepted ([] ∷ [])
    ∷ accepted ([] ∷ [])
    ∷ accepted (bytes "m" ∷ [])
    ∷ []

-- 'an id seen on an earlier node', 'its place the first such node'; byte by byte, so that case counts and a longer one is another; two nodes without id have none that was seen
unfoldable pub seen : List Question
seen =
    in40 (at32f " id=\"a\"" ++ at32f " id=\"a\"")
    ∷ in40 (at32f " id=\"a\"" ++ at32f " id=\"b\"" ++ at32f " id=\"a\"")
    ∷ in40 (at32f " id=\"a\"" ++ at32f " id=\"b\"" ++ at32f " id=\"b\"" ++ at32f " id=\"a\"")
    ∷ in40 (at32f " id=\"a\"" ++ at32f "" ++ at32f " id='a'")
    ∷ in40 (at32f "" ++ at32f "")
    ∷ in40 (at32f " id=\"cam4\"" ++ at32f " id=\"CAM4\"" ++ at32f " id=\"cam\"" ++ at32f " id=\"cam40\"")
    ∷ in40 (at32f " id=\"a\"" ++ at32f " id=\"b\"" ++ at32f " id=\"c\"" ++ at32f " id=\"a\"")
    ∷ in40 (at32f " id=\"abcdefghijklmnopqrstuvwxyz.-9A_Z\"" ++ at32f " id=\"abcdefghijklmnopqrstuvwxyz.-9A_Y\"")
    ∷ []

unfoldable pub seen_answers : List Answer
seen_answers =
    refused 23 2
    ∷ refused 23 3
    ∷ refused 23 3
    ∷ refused 23 3
    ∷ accepted ([] ∷ [] ∷ [])
    ∷ accepted (bytes "cam4" ∷ bytes "CAM4" ∷ bytes "cam" ∷ bytes "cam40" ∷ [])
    ∷ refused 23 4
    ∷ accepted (bytes "abcdefghijklmnopqrstuvwxyz.-9A_Z" ∷ bytes "abcdefghijklmnopqrstuvwxyz.-9A_Y" ∷ [])
    ∷ []

-- 'judged over the list after 10 and before 13': 10 also where it is at a later node; and over text without fault
unfoldable pub ordered : List Question
ordered =
    in40 (at32f " id=\"a\"" ++ at32f " id=\"a\"" ++ node " inBitDepth=\"10i\" outBitDepth=\"32f\"")
    ∷ record { room = 10; file = file_of (at32f " id=\"a\"" ++ at32f " id=\"a\"") }
    ∷ record { room = 10; file = file_of (at32f " id=\"a\"" ++ at32f " id=\"b\"") }
    ∷ in40 (at32f " id=\"a\"" ++ at32f " id=\"a\"" ++ at32f " id=\"c d\"")
    ∷ []

unfoldable pub ordered_answers : List Answer
ordered_answers =
    refused 10 3
    ∷ refused 23 2
    ∷ refused 13 0
    ∷ refused 24 234
    ∷ []

-- all of these files
unfoldable pub files : List Question
files = named ++ wrong ++ passed ++ seen ++ ordered

unfoldable pub file_answers : List Answer
file_answers = named_answers ++ wrong_answers ++ passed_answers ++ seen_answers ++ ordered_answers

-- ---- bytes of an id, and its 32 places

-- the first and the last of each kind, and the bytes beside them: `,` `-` `.` `/` `0` `9` `:` `@` `A` `Z` `[` `^` `_`, the backquote, `a` `z` `{`, 128 and 255
unfoldable pub id_bytes : List ℕ
id_bytes = 44 ∷ 45 ∷ 46 ∷ 47 ∷ 48 ∷ 57 ∷ 58 ∷ 64 ∷ 65 ∷ 90 ∷ 91 ∷ 94 ∷ 95 ∷ 96 ∷ 97 ∷ 122 ∷ 123 ∷ 128 ∷ 255 ∷ []

unfoldable pub id_bytes_answers : List Bool
id_bytes_answers =
    false ∷ true ∷ true ∷ false ∷ true ∷ true ∷ false ∷ false ∷ true ∷ true ∷ false ∷ false ∷ true ∷ false ∷ true ∷ true ∷ false ∷ false ∷ false ∷ []

-- what a node holds: the bytes in their order, then zeros; without an id zeros alone
unfoldable pub texts : List (List ℕ)
texts = bytes "cam4" ∷ [] ∷ []

unfoldable pub texts_answers : List (List ℕ)
texts_answers = (99 ∷ 97 ∷ 109 ∷ 52 ∷ replicate 28 0) ∷ replicate 32 0 ∷ []

-- ---- lists: two ASC_CDL that change nothing, whose ids stand so in their 32 places, and what stands behind the last node

-- an ASC_CDL, Fwd, from 32f to 32f, with these 32 places of its id
abbrev pub cdl_node : List ℕ → Node
cdl_node places = unplaced (Cdl Fwd) F32 F32 places

-- Slope 1 1 1, Offset 0 0 0, Power 1 1 1, Saturation 1
abbrev pub ten_coefficients : List ℤ
ten_coefficients = pos 1 ∷ pos 1 ∷ pos 1 ∷ pos 0 ∷ pos 0 ∷ pos 0 ∷ pos 1 ∷ pos 1 ∷ pos 1 ∷ pos 1 ∷ []

-- the room of two such nodes, with no number behind them
abbrev pub twenty : Room
twenty = lent (ten_coefficients ++ ten_coefficients) (replicate 20 (pos 0))

-- two nodes with these ids, and what stands in the place behind them
abbrev pub list_with : List ℕ → List ℕ → Node → ProcessList
list_with a b behind = record { count = 2; nodes = place_from 0 (cdl_node a ∷ cdl_node b ∷ []) ++ (behind ∷ replicate 29 blank_node) }

-- a node behind the last one, blank but for its id
abbrev pub blank_named : List ℕ → Node
blank_named places = record { kind = blank_node.kind; input = blank_node.input; output = blank_node.output; id = places; at = 0; newest = 0 }

-- 16 of document 01: whether this list and that room are the reading of some file
abbrev pub is_reading : ProcessList → Bool
is_reading l = is_valid l twenty

-- sound ones; two equal ids; a wrong byte; bytes behind an id's end that are not zero, behind no id too; an id behind the last node
unfoldable pub lists : List ProcessList
lists =
    list_with no_id no_id blank_node
    ∷ list_with (held_id (bytes "cam4")) no_id blank_node
    ∷ list_with (held_id (bytes "cam4")) (held_id (bytes "CAM4")) blank_node
    ∷ list_with (replicate 32 97) (replicate 32 98) blank_node
    ∷ list_with (held_id (bytes "cam4")) (held_id (bytes "cam4")) blank_node
    ∷ list_with (held_id (bytes "cam 4")) no_id blank_node
    ∷ list_with no_id (97 ∷ 0 ∷ 98 ∷ replicate 29 0) blank_node
    ∷ list_with no_id (0 ∷ 98 ∷ replicate 30 0) blank_node
    ∷ list_with no_id no_id (blank_named (held_id (bytes "cam4")))
    ∷ []

unfoldable pub lists_answers : List Bool
lists_answers = true ∷ true ∷ true ∷ true ∷ false ∷ false ∷ false ∷ false ∷ false ∷ []

-- 11 goes before 23: 33 nodes of one id; and 32 of one id are 23
unfoldable pub many_nodes : List (List Node)
many_nodes = replicate 33 (cdl_node (held_id (bytes "a"))) ∷ replicate 32 (cdl_node (held_id (bytes "a"))) ∷ []

unfoldable pub many_answers : List Verdict
many_answers = Err TooManyNodes ∷ Err (IdSeen 2) ∷ []
