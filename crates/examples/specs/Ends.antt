-- Ranges with one end (document 02, W-202): files with what reading answers, and pixels with what they become. Most tell apart two ways in which the paragraph could be read.
use Rattle.std.specs.Prelude.{Bool, true, false, List, [], ◌∷◌, ◌++◌, map, ℕ, Float}
use Rattle.std.proofs.Math.Option.{Option, none, some}
use Prim.Native.String.{String}
use Rattle.std.specs.Float.{inf, binary64}
use Rattle.std.specs.Float.Ieee.{of_bits}
use Rattle.decimal.specs.declared.Decimal.{Decimal}
use Rattle.process_list.specs.declared.Depth.{Depth}
use Rattle.process_list.specs.declared.Depth.TheVariants.{I8, I10, F16, F32}
use Rattle.process_list.specs.declared.RangeStyle.TheVariants.{NoClamp}
use Rattle.process_list.specs.declared.RangeEnd.TheVariants.{Minimum, Maximum}
use Rattle.process_list.specs.declared.Kind.{Kind}
use Rattle.process_list.specs.declared.Kind.TheVariants.{Matrix, Range, OneEnd}
use Rattle.process_list.specs.List.{Element}
use Rattle.clf.specs.Nodes.{RangeState}
use Rattle.clf.specs.Reading.{Reading, accepted, faulty, read_alone, nodes_in}
use Rattle.xml.specs.Bytes.{bytes}
use Rattle.examples.specs.Starred.{Outcome, slice, of_run, decimal, f64, at32f}

-- ---- files

-- a file with one Range, of these attributes; then the end of its start tag and what follows it, the end tag included
abbrev pub file_with : String → String → List ℕ
file_with attributes content =
    bytes "<?xml version=\"1.0\" encoding=\"UTF-8\"?><ProcessList id=\"a\" compCLFversion=\"3.0\"><Range "
    ++ bytes attributes ++ bytes content ++ bytes "</ProcessList>"

abbrev pub node_at : Depth → Depth → Kind → List String → Element
node_at input output kind numbers = record { kind = kind; input = input; output = output; id = []; numbers = map decimal numbers }

-- what is asked of a file: what reading it into a room for 262,144 numbers answers
abbrev pub file_outcome : List ℕ → Reading
file_outcome s = read_alone s

-- one pair, its values in either order, equal as numbers however they are written; at 32f and at 10i
unfoldable pub pairs : List (List ℕ)
pairs =
    file_with "inBitDepth=\"32f\" outBitDepth=\"32f\"" "><minInValue>0</minInValue><minOutValue>-0</minOutValue></Range>"
    ∷ file_with "inBitDepth=\"32f\" outBitDepth=\"32f\"" "><maxOutValue>1.0</maxOutValue><maxInValue>10e-1</maxInValue></Range>"
    ∷ file_with "inBitDepth=\"10i\" outBitDepth=\"10i\" style=\"Clamp\"" "><minInValue>64</minInValue><minOutValue>64</minOutValue></Range>"
    ∷ []

unfoldable pub pairs_answers : List Reading
pairs_answers =
    accepted (node_at F32 F32 (OneEnd Minimum) ("0" ∷ "0" ∷ []) ∷ [])
    ∷ accepted (node_at F32 F32 (OneEnd Maximum) ("1" ∷ "1" ∷ []) ∷ [])
    ∷ accepted (node_at I10 I10 (OneEnd Minimum) ("64" ∷ "64" ∷ []) ∷ [])
    ∷ []

-- no pair, half a pair, half of each: 5; half a pair also with noClamp or at unequal depths (the rest: `subsets`)
unfoldable pub halves : List (List ℕ)
halves =
    file_with "inBitDepth=\"32f\" outBitDepth=\"32f\"" "></Range>"
    ∷ file_with "inBitDepth=\"32f\" outBitDepth=\"32f\"" "/>"
    ∷ file_with "inBitDepth=\"32f\" outBitDepth=\"32f\"" "><minInValue>0</minInValue></Range>"
    ∷ file_with "inBitDepth=\"32f\" outBitDepth=\"32f\"" "><minInValue>0</minInValue><maxOutValue>0</maxOutValue></Range>"
    ∷ file_with "inBitDepth=\"32f\" outBitDepth=\"32f\"" "><maxInValue>0</maxInValue><minOutValue>0</minOutValue></Range>"
    ∷ file_with "inBitDepth=\"32f\" outBitDepth=\"32f\" style=\"noClamp\"" "><minOutValue>0</minOutValue></Range>"
    ∷ file_with "inBitDepth=\"16f\" outBitDepth=\"32f\"" "><maxInValue>0</maxInValue></Range>"
    ∷ []

unfoldable pub halves_answers : List Reading
halves_answers =
    faulty 5 121
    ∷ faulty 5 120
    ∷ faulty 5 147
    ∷ faulty 5 175
    ∷ faulty 5 175
    ∷ faulty 5 165
    ∷ faulty 5 147
    ∷ []

-- half a pair beside a whole one: 5, and neither 7 for depths and style nor 21 for a pair that is unequal and values that are out of order
unfoldable pub threes : List (List ℕ)
threes =
    file_with "inBitDepth=\"16f\" outBitDepth=\"32f\" style=\"noClamp\"" "><minInValue>1</minInValue><minOutValue>0</minOutValue><maxInValue>0</maxInValue></Range>"
    ∷ []

unfoldable pub threes_answers : List Reading
threes_answers =
    faulty 5 217
    ∷ []

-- one pair at depths that differ, their scales alike or not, equal by their scales or not, and with noClamp: 7, also where the values are unequal
unfoldable pub forbidden : List (List ℕ)
forbidden =
    file_with "inBitDepth=\"16f\" outBitDepth=\"32f\"" "><minInValue>0</minInValue><minOutValue>0</minOutValue></Range>"
    ∷ file_with "inBitDepth=\"8i\" outBitDepth=\"10i\"" "><maxInValue>255</maxInValue><maxOutValue>1023</maxOutValue></Range>"
    ∷ file_with "inBitDepth=\"32f\" outBitDepth=\"32f\" style=\"noClamp\"" "><maxInValue>1</maxInValue><maxOutValue>1</maxOutValue></Range>"
    ∷ file_with "inBitDepth=\"8i\" outBitDepth=\"10i\"" "><minInValue>64</minInValue><minOutValue>64</minOutValue></Range>"
    ∷ file_with "inBitDepth=\"8i\" outBitDepth=\"10i\"" "><minInValue>0</minInValue><minOutValue>1</minOutValue></Range>"
    ∷ file_with "inBitDepth=\"32f\" outBitDepth=\"32f\" style=\"noClamp\"" "><minInValue>0</minInValue><minOutValue>1</minOutValue></Range>"
    ∷ []

unfoldable pub forbidden_answers : List Reading
forbidden_answers =
    faulty 7 175
    ∷ faulty 7 179
    ∷ faulty 7 191
    ∷ faulty 7 176
    ∷ faulty 7 174
    ∷ faulty 7 191
    ∷ []

-- unequal values, the larger one in or out: 21
unfoldable pub unequal : List (List ℕ)
unequal =
    file_with "inBitDepth=\"32f\" outBitDepth=\"32f\"" "><minInValue>0</minInValue><minOutValue>1</minOutValue></Range>"
    ∷ file_with "inBitDepth=\"32f\" outBitDepth=\"32f\"" "><minInValue>1</minInValue><minOutValue>0</minOutValue></Range>"
    ∷ file_with "inBitDepth=\"32f\" outBitDepth=\"32f\"" "><maxInValue>0</maxInValue><maxOutValue>1</maxOutValue></Range>"
    ∷ file_with "inBitDepth=\"32f\" outBitDepth=\"32f\"" "><maxInValue>1</maxInValue><maxOutValue>0</maxOutValue></Range>"
    ∷ []

unfoldable pub unequal_answers : List Reading
unequal_answers =
    faulty 21 175
    ∷ faulty 21 175
    ∷ faulty 21 175
    ∷ faulty 21 175
    ∷ []

-- judged at the end tag: what is wrong behind its name comes later, another name is 2, the lowest there
unfoldable pub end_tags : List (List ℕ)
end_tags =
    file_with "inBitDepth=\"32f\" outBitDepth=\"32f\"" "><minInValue>0</minInValue></Range x"
    ∷ file_with "inBitDepth=\"32f\" outBitDepth=\"32f\" style=\"noClamp\"" "><minInValue>0</minInValue><minOutValue>0</minOutValue></Range x"
    ∷ file_with "inBitDepth=\"32f\" outBitDepth=\"32f\"" "><maxInValue>1</maxInValue><maxOutValue>0</maxOutValue></Range x"
    ∷ file_with "inBitDepth=\"32f\" outBitDepth=\"32f\"" "><minInValue>0</minInValue><minOutValue>1</minOutValue></Matrix>"
    ∷ []

unfoldable pub end_tags_answers : List Reading
end_tags_answers =
    faulty 5 147
    ∷ faulty 7 191
    ∷ faulty 21 175
    ∷ faulty 2 175
    ∷ []

-- all four values: depths and style are free
unfoldable pub fours : List (List ℕ)
fours =
    file_with "inBitDepth=\"8i\" outBitDepth=\"10i\" style=\"noClamp\"" "><minInValue>0</minInValue><minOutValue>0</minOutValue><maxInValue>255</maxInValue><maxOutValue>1023</maxOutValue></Range>"
    ∷ []

unfoldable pub fours_answers : List Reading
fours_answers =
    accepted (node_at I8 I10 (Range NoClamp) ("0" ∷ "255" ∷ "0" ∷ "1023" ∷ []) ∷ [])
    ∷ []

unfoldable pub files : List (List ℕ)
files = pairs ++ halves ++ threes ++ forbidden ++ unequal ++ end_tags ++ fours

unfoldable pub file_answers : List Reading
file_answers = pairs_answers ++ halves_answers ++ threes_answers ++ forbidden_answers ++ unequal_answers ++ end_tags_answers ++ fours_answers

-- ---- which values are there

-- the state at the end tag, by whether minIn, maxIn, minOut and maxOut are there; they are 0, 1, 0 and 1, in order and each pair equal
abbrev pub value : Bool → String → Option Decimal
value true t = some (decimal t)
value false t = none

abbrev pub with : Bool → Bool → Bool → Bool → RangeState
with minIn maxIn minOut maxOut = record { values = value minIn "0" ∷ value maxIn "1" ∷ value minOut "0" ∷ value maxOut "1" ∷ [] }

-- all sixteen: none, one, two, three and all of them
unfoldable pub subsets : List RangeState
subsets =
    with false false false false
    ∷ with true false false false
    ∷ with false true false false
    ∷ with false false true false
    ∷ with false false false true
    ∷ with true true false false
    ∷ with true false true false
    ∷ with true false false true
    ∷ with false true true false
    ∷ with false true false true
    ∷ with false false true true
    ∷ with true true true false
    ∷ with true true false true
    ∷ with true false true true
    ∷ with false true true true
    ∷ with true true true true
    ∷ []

-- what is missing, or wrong, where the start tag allows one pair alone, and where it does not: only the two pairs and all four are no 5
abbrev pub subsets_answers : ℕ → List ℕ
subsets_answers onePair = 5 ∷ 5 ∷ 5 ∷ 5 ∷ 5 ∷ 5 ∷ onePair ∷ 5 ∷ 5 ∷ onePair ∷ 5 ∷ 5 ∷ 5 ∷ 5 ∷ 5 ∷ 0 ∷ []

-- ---- pixels

-- what is asked: what a pixel becomes in these nodes; what it becomes in the nodes of a file
pub data Question : Type 0 where
  run : List Element → List Float → Question
  file : List ℕ → List Float → Question

abbrev pub outcome : Question → Outcome
outcome (run nodes x) = of_run nodes x
outcome (file s x) = of_run (nodes_in (read_alone s)) x

abbrev pub minus_zero : Float
minus_zero = of_bits binary64 0x8000_0000_0000_0000

-- 2^1000 and its negative
abbrev pub huge : Float
huge = of_bits binary64 0x7e70_0000_0000_0000

abbrev pub minus_huge : Float
minus_huge = of_bits binary64 0xfe70_0000_0000_0000

-- takes (huge, -huge, any) to infinity, minus infinity and, by their sum, NaN
abbrev pub overflowing : Element
overflowing = at32f (Matrix false) ("1e22" ∷ "0" ∷ "0" ∷ "0" ∷ "1e22" ∷ "0" ∷ "1e22" ∷ "1e22" ∷ "0" ∷ [])

abbrev pub floor : String → Element
floor limit = at32f (OneEnd Minimum) (limit ∷ limit ∷ [])

abbrev pub ceiling : String → Element
ceiling limit = at32f (OneEnd Maximum) (limit ∷ limit ∷ [])

-- below, at and above the limit; '-0 is not beyond 0', of either end; 'or NaN'; an infinity stays on the open side; code values of 10i, by a file; and lists that are 16, which leaves the pixel: at
-- two depths, and of two numbers
unfoldable pub questions : List Question
questions =
    run (floor "0.5" ∷ []) (f64 "0.25" ∷ f64 "0.5" ∷ f64 "2" ∷ [])
    ∷ run (ceiling "0.5" ∷ []) (f64 "0.25" ∷ f64 "0.5" ∷ f64 "2" ∷ [])
    ∷ run (floor "0" ∷ []) (f64 "-1" ∷ minus_zero ∷ f64 "0" ∷ [])
    ∷ run (ceiling "-0" ∷ []) (f64 "1" ∷ minus_zero ∷ f64 "0" ∷ [])
    ∷ run (overflowing ∷ floor "-0.5" ∷ []) (huge ∷ minus_huge ∷ f64 "0" ∷ [])
    ∷ run (overflowing ∷ ceiling "-0.5" ∷ []) (huge ∷ minus_huge ∷ f64 "0" ∷ [])
    ∷ file (file_with "inBitDepth=\"10i\" outBitDepth=\"10i\"" "><minInValue>64</minInValue><minOutValue>64</minOutValue></Range>") (f64 "0" ∷ f64 "64" ∷ f64 "1023" ∷ [])
    ∷ file (file_with "inBitDepth=\"8i\" outBitDepth=\"8i\"" "><maxOutValue>235</maxOutValue><maxInValue>235</maxInValue></Range>") (f64 "0" ∷ f64 "235" ∷ f64 "255" ∷ [])
    ∷ run (node_at I8 I10 (OneEnd Minimum) ("64" ∷ "64" ∷ []) ∷ []) (f64 "0" ∷ f64 "64" ∷ f64 "255" ∷ [])
    ∷ run (node_at F16 F32 (OneEnd Maximum) ("1" ∷ "1" ∷ []) ∷ []) (f64 "0" ∷ f64 "64" ∷ f64 "255" ∷ [])
    ∷ run (node_at I8 I8 (OneEnd Minimum) ("64" ∷ "65" ∷ []) ∷ []) (f64 "0" ∷ f64 "64" ∷ f64 "255" ∷ [])
    ∷ run (node_at I8 I8 (OneEnd Minimum) ("65" ∷ "64" ∷ []) ∷ []) (f64 "0" ∷ f64 "64" ∷ f64 "255" ∷ [])
    ∷ []

unfoldable pub answers : List Outcome
answers =
    slice 0 (f64 "0.5" ∷ f64 "0.5" ∷ f64 "2" ∷ [])
    ∷ slice 0 (f64 "0.25" ∷ f64 "0.5" ∷ f64 "0.5" ∷ [])
    ∷ slice 0 (f64 "0" ∷ minus_zero ∷ f64 "0" ∷ [])
    ∷ slice 0 (f64 "0" ∷ minus_zero ∷ f64 "0" ∷ [])
    ∷ slice 0 (inf false ∷ f64 "-0.5" ∷ f64 "-0.5" ∷ [])
    ∷ slice 0 (f64 "-0.5" ∷ inf true ∷ f64 "-0.5" ∷ [])
    ∷ slice 0 (f64 "64" ∷ f64 "64" ∷ f64 "1023" ∷ [])
    ∷ slice 0 (f64 "0" ∷ f64 "235" ∷ f64 "235" ∷ [])
    ∷ slice 16 (f64 "0" ∷ f64 "64" ∷ f64 "255" ∷ [])
    ∷ slice 16 (f64 "0" ∷ f64 "64" ∷ f64 "255" ∷ [])
    ∷ slice 16 (f64 "0" ∷ f64 "64" ∷ f64 "255" ∷ [])
    ∷ slice 16 (f64 "0" ∷ f64 "64" ∷ f64 "255" ∷ [])
    ∷ []
