-- The check program's line (document 01, The written form): 'it prints `accepted 1 nodes 4 numbers`; fed nothing, `refusal 1 at 0`; each with LF'.
use Rattle.std.specs.Prelude.{cond, List, ◌++◌, ℕ, ◌-◌, eqb, ltb, length, replicate}
use Rattle.process_list.specs.List.{nodes_of, total, capped}
use Rattle.clf.specs.Reading.{Reading, read, reading_number, reading_place}
use Rattle.xml.specs.Bytes.{bytes}
use Rattle.decimal_write.specs.Written.{digits}
use Rattle.reading.specs.Counts.{node_count, number_count}
use Rattle.std.specs.Prelude.{Ok, Err}
use Rattle.reading.specs.Code.{Answer}
use Rattle.check_line.specs.declared.Line.{Line}

-- a line of the bytes l: these, then zeros, and how many they are
unfoldable pub line_from : List ℕ → Line
line_from l = record { bytes = l ++ replicate (80 - length l) 0; length = length l }

unfoldable pub accepted_text : ℕ → ℕ → List ℕ
accepted_text nodes numbers = bytes "accepted " ++ (digits nodes ++ (bytes " nodes " ++ (digits numbers ++ bytes " numbers\n")))

unfoldable pub refusal_text : ℕ → ℕ → List ℕ
refusal_text number place = bytes "refusal " ++ (digits number ++ (bytes " at " ++ (digits place ++ bytes "\n")))

-- '(more prints `too long`)'
unfoldable pub too_long : List ℕ
too_long = bytes "too long\n"

-- the line for a refusal number with its place, and a list's counts of nodes and numbers
unfoldable pub line_text : ℕ → ℕ → ℕ → ℕ → List ℕ
line_text number place nodes numbers = cond (eqb number 0) (accepted_text nodes numbers) (refusal_text number place)

-- the line for what reading answers
unfoldable pub reading_text : Reading → List ℕ
reading_text r = line_text (reading_number r) (reading_place r) (node_count r) (number_count r)

-- the same for what the code's reading answers
unfoldable pub answer_text : Answer → List ℕ
answer_text (Ok list) = accepted_text list.count (capped (total (nodes_of list)))
answer_text (Err why) = refusal_text why.number why.place

-- 'The check program has room for 4,096 numbers and reads at most 65,536 bytes of standard input'
unfoldable pub check_text : List ℕ → List ℕ
check_text s = cond (ltb 65536 (length s)) too_long (reading_text (read 4096 s))

-- three words, two numbers between them, then t
abbrev pub two_numbers : List ℕ → ℕ → List ℕ → ℕ → List ℕ → List ℕ → List ℕ
two_numbers first m middle n last t = first ++ (digits m ++ (middle ++ (digits n ++ (last ++ t))))
