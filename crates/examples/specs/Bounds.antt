-- A typo and a long number (document 02, W-204): files with what reading answers. Most tell apart two ways in which the paragraph could be read.
use Rattle.std.specs.Prelude.{List, [], ◌∷◌, ◌++◌, ℕ, replicate, pos}
use Prim.Native.String.{String}
use Rattle.room.specs.Room.{lent}
use Rattle.clf.specs.Reading.{read, reading_number, reading_place, read_alone, description_asked}
use Rattle.look.specs.Replacing.{Replacing, refused, Call, plain_call, numbered_call, call}
use Rattle.check_line.specs.Line.{check_text}
use Rattle.clf_c.specs.declared.FileCheck.{FileCheck}
use Rattle.clf_c.specs.declared.FileRead.{FileRead}
use Rattle.clf_c.specs.Answers.{file_check_of, file_read_of}
use Rattle.clf_c.specs.Applying.{check_saying, apply_of}
use Rattle.xml.specs.Bytes.{bytes}
use Rattle.examples.specs.Starred.{cdl}

-- up to the content of ProcessList, 79 bytes
abbrev pub opening : List ℕ
opening = bytes "<?xml version=\"1.0\" encoding=\"UTF-8\"?><ProcessList id=\"a\" compCLFversion=\"3.0\">"

-- a file that ends with these bytes of an Array of nine numbers, which begin at byte 137; and with these of a Slope, which begin at byte 139
abbrev pub in_array : List ℕ → List ℕ
in_array text = opening ++ bytes "<Matrix inBitDepth=\"8i\" outBitDepth=\"8i\"><Array dim=\"3 3\">" ++ text

abbrev pub in_slope : String → List ℕ
in_slope text = opening ++ bytes "<ASC_CDL inBitDepth=\"32f\" outBitDepth=\"32f\"><SOPNode><Slope>" ++ bytes text

-- a refusal number, 0 for accepted, and its place
pub record Answer : Type 0 where
  pub number : ℕ
  pub place : ℕ

-- what reading a file into room for 40 numbers answers
abbrev pub outcome : List ℕ → Answer
outcome file = record { number = reading_number (read 40 file); place = reading_place (read 40 file) }

-- this number at this place
abbrev pub answer : ℕ → ℕ → Answer
answer number place = record { number = number; place = place }

-- '9 both for `0.5x` and for a number with seventeen digits': now 9 and 25. 'Document 01's examples `1e23` and `1234567890123456` become 25'. Three digits behind the e are not of the form. 65 zeros are over
-- 64 bytes, and with an x behind them they are of a wrong form. No `&` form is of the form
unfoldable pub tokens : List (List ℕ)
tokens =
    in_array (bytes "0.5x ")
    ∷ in_array (bytes "12345678901234567 ")
    ∷ in_array (bytes "1e23 ")
    ∷ in_array (bytes "1234567890123456 ")
    ∷ in_array (bytes "1e-23 ")
    ∷ in_array (bytes "10e22 ")
    ∷ in_array (bytes "1e100 ")
    ∷ in_array (bytes "1e007 ")
    ∷ in_array (replicate 65 48 ++ bytes " ")
    ∷ in_array (replicate 65 48 ++ bytes "x ")
    ∷ in_array (bytes "1234567890123456&amp; ")
    ∷ []

unfoldable pub tokens_answers : List Answer
tokens_answers =
    answer 9 137
    ∷ answer 25 137
    ∷ answer 25 137
    ∷ answer 25 137
    ∷ answer 25 137
    ∷ answer 25 137
    ∷ answer 9 137
    ∷ answer 9 137
    ∷ answer 25 137
    ∷ answer 9 137
    ∷ answer 9 137
    ∷ []

-- numbers on the right side of each bound: nine of them are a Matrix
unfoldable pub held : List (List ℕ)
held =
    in_array (bytes "0e99 0.1e23 1000000000000000 10e-23 999999999999999e22 " ++ replicate 64 48 ++ bytes " 1e22 1e-22 -1</Array></Matrix></ProcessList>") ∷ []

unfoldable pub held_answers : List Answer
held_answers = answer 0 0 ∷ []

-- a token is judged at its end, which white space or `<` makes; the fault with the smallest place is given; the last number asked for is judged as the others; a surplus token of the right form is 22, 'the
-- lowest number' at its place, and one that is no number 9; too few are 22, and not a token at fault; no `&` form is read for the byte that it stands for
unfoldable pub placed : List (List ℕ)
placed =
    in_array (bytes "1e23")
    ∷ in_array (bytes "1e23<")
    ∷ in_array (bytes "1e23&x; ")
    ∷ in_array (bytes "1 1e23 x ")
    ∷ in_array (bytes "1 x 1e23 ")
    ∷ in_array (bytes "1 2 3 4 5 6 7 8 1e23 ")
    ∷ in_array (bytes "1 2 3 4 5 6 7 8 9 1e23 ")
    ∷ in_array (bytes "1 2 3 4 5 6 7 8 9 x ")
    ∷ in_array (bytes "1 2</Array>")
    ∷ in_array (bytes "&#49; ")
    ∷ []

unfoldable pub placed_answers : List Answer
placed_answers =
    answer 1 141
    ∷ answer 25 137
    ∷ answer 3 141
    ∷ answer 25 139
    ∷ answer 9 139
    ∷ answer 25 153
    ∷ answer 22 155
    ∷ answer 9 155
    ∷ answer 22 140
    ∷ answer 3 137
    ∷ []

-- the rules compare floats, which a token out of bounds has none of: Slope -1 is 21 and -1e23 25, Power 2 is 7 and 2e23 25; one too many is 22 and no rule is asked of it, nor any limit
unfoldable pub ruled : List (List ℕ)
ruled =
    in_slope "-1 "
    ∷ in_slope "-1e23 "
    ∷ in_slope "1 1 1 -1 "
    ∷ in_slope "1 1 1 -1e23 "
    ∷ in_slope "1 1 1 x "
    ∷ in_slope "1 1 1</Slope><Offset>1e23 "
    ∷ in_slope "1 1 1</Slope><Offset>0 0 0</Offset><Power>2 "
    ∷ in_slope "1 1 1</Slope><Offset>0 0 0</Offset><Power>2e23 "
    ∷ in_slope "1 1 1</Slope><Offset>0 0 0</Offset><Power>1 1 1 2 "
    ∷ []

unfoldable pub ruled_answers : List Answer
ruled_answers =
    answer 21 139
    ∷ answer 25 139
    ∷ answer 22 145
    ∷ answer 22 145
    ∷ answer 9 145
    ∷ answer 25 160
    ∷ answer 7 181
    ∷ answer 25 181
    ∷ answer 22 187
    ∷ []

-- in every other element that holds numbers: Saturation, a Range's values with all four and with one pair, the Arrays of a wide Matrix, a LUT1D and a LUT3D
abbrev pub in_node : String → List ℕ
in_node text = opening ++ bytes text

unfoldable pub others : List (List ℕ)
others =
    in_node "<ASC_CDL inBitDepth=\"32f\" outBitDepth=\"32f\"><SatNode><Saturation>-1e23 "
    ∷ in_node "<Range inBitDepth=\"32f\" outBitDepth=\"32f\"><minInValue>1e23 "
    ∷ in_node "<Range inBitDepth=\"32f\" outBitDepth=\"32f\"><maxOutValue>0.5x "
    ∷ in_node "<Range inBitDepth=\"32f\" outBitDepth=\"32f\"><maxInValue>1</maxInValue><maxOutValue>1e23 "
    ∷ in_node "<Matrix inBitDepth=\"8i\" outBitDepth=\"8i\"><Array dim=\"3 4\">1e23 "
    ∷ in_node "<LUT1D inBitDepth=\"8i\" outBitDepth=\"8i\"><Array dim=\"2 1\">0 1e23 "
    ∷ in_node "<LUT3D inBitDepth=\"8i\" outBitDepth=\"8i\"><Array dim=\"2 2 2 3\">0 0 0 0.5x "
    ∷ []

unfoldable pub others_answers : List Answer
others_answers =
    answer 25 144
    ∷ answer 25 133
    ∷ answer 9 134
    ∷ answer 25 160
    ∷ answer 25 137
    ∷ answer 25 138
    ∷ answer 9 146
    ∷ []

-- ---- 'every caller passes it on': the check program's line, the functions for C, a Description's number, replacing calls

-- a number that is too large, and a typo
abbrev pub large : List ℕ
large = in_array (bytes "1e23 ")

abbrev pub typo : List ℕ
typo = in_array (bytes "0.5x ")

-- what the check program prints for each
unfoldable pub lines : List (List ℕ)
lines = check_text large ∷ check_text typo ∷ []

unfoldable pub lines_answers : List (List ℕ)
lines_answers = bytes "refusal 25 at 137\n" ∷ bytes "refusal 9 at 137\n" ∷ []

-- for C: checking, applying to no pixels in a room of one number; and the second question of a Description, 25 before 19
unfoldable pub checks : List FileCheck
checks =
    file_check_of (read_alone large)
    ∷ file_check_of (read_alone typo)
    ∷ apply_of large (lent (pos 0 ∷ []) (pos 0 ∷ [])) []
    ∷ file_check_of (description_asked 99 large)
    ∷ []

unfoldable pub checks_answers : List FileCheck
checks_answers = check_saying 25 137 ∷ check_saying 9 137 ∷ check_saying 25 137 ∷ check_saying 25 137 ∷ []

-- for C: reading, which gives no nodes
unfoldable pub reads : List FileRead
reads = file_read_of (read 40 large) ∷ []

unfoldable pub reads_answers : List FileRead
reads_answers = record { number = 25; place = 137; nodes = 0; numbers = 0 } ∷ []

-- replacing node 1 of a list of one, where 5 is kept, in room for 40 numbers: 25 at the token in the element; a late call is 28 before its element is looked at; a token that touches the end is 1
abbrev pub matrix_with : String → List ℕ
matrix_with text = bytes "<Matrix inBitDepth=\"8i\" outBitDepth=\"8i\"><Array dim=\"3 3\">" ++ bytes text

abbrev pub replacing : Call → Replacing
replacing c = call 40 (5 ∷ []) (cdl ∷ []) c

unfoldable pub calls : List Replacing
calls =
    replacing (plain_call 1 (matrix_with "1e23 "))
    ∷ replacing (plain_call 1 (matrix_with "0.5x "))
    ∷ replacing (plain_call 1 (matrix_with "1e23"))
    ∷ replacing (numbered_call 1 5 (matrix_with "1e23 "))
    ∷ replacing (numbered_call 1 6 (matrix_with "1e23 "))
    ∷ []

unfoldable pub calls_answers : List Replacing
calls_answers = refused 25 58 ∷ refused 9 58 ∷ refused 1 62 ∷ refused 28 0 ∷ refused 25 58 ∷ []
