-- The refusal numbers of document 01 (Refusal numbers) and document 02 (from 23 on), each with its words there. 0 is 'accepted', and no fault.
use Rattle.std.specs.Prelude.{ℕ}

-- 'bytes end inside something unfinished or before the root'
abbrev pub cut_short : ℕ
cut_short = 1

-- 'not well formed'
abbrev pub not_well_formed : ℕ
not_well_formed = 2

-- 'XML form not carried; Info too deep; over 16 attributes'
abbrev pub form_not_carried : ℕ
form_not_carried = 3

-- 'over 16 MiB'
abbrev pub too_long : ℕ
too_long = 4

-- 'element unknown here, missing or twice'
abbrev pub wrong_element : ℕ
wrong_element = 5

-- 'compCLFversion there, but not "3.0"'
abbrev pub wrong_version : ℕ
wrong_version = 6

-- 'known to CLF, not carried; a Power above 0 that is not 1'; 02, W-202: 'unequal depths or noClamp with one pair'
abbrev pub not_carried : ℕ
not_carried = 7

-- 'attribute missing or of a wrong text, `dim` included'
abbrev pub wrong_attribute : ℕ
wrong_attribute = 8

-- 'token is no number of our form'; 02, W-204: '9 stays for a token that is no number'
abbrev pub no_number : ℕ
no_number = 9

-- 'inBitDepth differs from the previous outBitDepth'
abbrev pub depth_differs : ℕ
depth_differs = 10

-- 'over 32 nodes'
abbrev pub many_nodes : ℕ
many_nodes = 11

-- 'no node'
abbrev pub no_nodes : ℕ
no_nodes = 12

-- 'more numbers than room'
abbrev pub many_numbers : ℕ
many_numbers = 13

-- 'pixel slice not a multiple of three'
abbrev pub not_threes : ℕ
not_threes = 14

-- 'pixel value NaN or infinite'
abbrev pub not_finite : ℕ
not_finite = 15

-- 'list and room are no accepted reading of any file into that room'
abbrev pub no_reading : ℕ
no_reading = 16

-- 'output shorter than the text'
abbrev pub short_output : ℕ
short_output = 17

-- 'id for writing not 1 to 64 of letters, digits, `-`, `_`, `.`'
abbrev pub wrong_id : ℕ
wrong_id = 18

-- 'node number, from 1, not in the list'
abbrev pub no_such_node : ℕ
no_such_node = 19

-- 'bytes are not one node element'
abbrev pub not_one_node : ℕ
not_one_node = 20

-- 'a rule between or on a node's numbers broken'
abbrev pub rule_broken : ℕ
rule_broken = 21

-- 'too few or too many numbers'
abbrev pub wrong_count : ℕ
wrong_count = 22

-- 'an id seen on an earlier node' (02, W-203)
abbrev pub id_seen : ℕ
id_seen = 23

-- 'an id that is not 1 to 32 bytes of letters, digits, `-`, `_`, `.`' (02, W-203)
abbrev pub wrong_node_id : ℕ
wrong_node_id = 24

-- 'a token of the right form that is over 64 bytes or outside coefficient or power' (02, W-204)
abbrev pub out_of_bounds : ℕ
out_of_bounds = 25

-- 'late' (02, W-208)
abbrev pub late : ℕ
late = 28
