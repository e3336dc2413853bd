-- Replacing a node by an element (document 01, Replacing; document 02, W-208): the element alone, the answer of a call, and the call by the list alone.
use Rattle.std.specs.Prelude.{refl, Bool, false, cond, ◌&&◌, List, [], ◌∷◌, ℕ, ◌-◌, ltb, leb, length, set, get_or}
use Rattle.process_list.specs.List.{Verdict, Element, verdict, by_verdict}
use Rattle.grammar.specs.Parse.{Out, done, fault, cut}
use Rattle.grammar.specs.Grammar.{G, judge, seq}
use Rattle.xml.specs.Bytes.{bytes, is_letter, is_digit, is_name_byte}
use Rattle.xml.specs.AmongLaws.{AllNames}
use Rattle.xml.specs.Xml.{one_of}
use Rattle.clf.specs.Nodes.{NodeName, node_names, node_fault, node_body}
use Rattle.clf.specs.Reading.{most_bytes, place_in, is_numbered}
use Rattle.refusals.specs.Refusals as Refusal

-- ---- the element alone

pub node-names : AllNames node_names
unfolding is_letter is_digit is_name_byte
node-names = (refl, (refl, (refl, (refl, (refl, (refl, (refl, tt)))))))

-- 'The element starts at its first byte with `<` and one of the seven node names (carried or not)'; 'any other start .. is 20', at 0,
-- 'and nothing else is judged at that place; no bytes at all, or a beginning of such a start, is 1'
unfoldable pub start : G NodeName
start = one_of (bytes "<") Refusal.not_one_node node_names node-names

-- the element: its start; a node that is not carried is 7 there; and what stands behind its name, as in a file
unfoldable pub element : G Element
element = seq (judge node_fault start) node_body

-- ---- the answer of a call

-- 0 and the elements of the list as it then is, or a refusal number and its place
pub data Replacing : Type 0 where
  replaced : List Element → Replacing
  refused : ℕ → ℕ → Replacing

-- ---- an unnumbered call by the list alone: 'Replacing: 16, 19, 4 (the element alone), then the element's own fault, then 10, 13', with 23 'after 10 and before 13' (02, W-203). The list is a
-- reading, so 16 does not arise

abbrev pub replacing_by : List Element → Verdict → Replacing
replacing_by es = by_verdict (replaced es) refused

-- the list with its new element, for a room of this length
unfoldable pub listed : ℕ → List Element → Replacing
listed room es = replacing_by es (verdict room es)

-- by what the element alone is: 'bytes after' are 20 at the first of them; a place is counted in the element
abbrev pub by_element : ℕ → List Element → ℕ → List ℕ → Out Element → Replacing
by_element room es k e (done n []) = listed room (set es (k - 1) n)
by_element room es k e (done n (b ∷ r)) = refused Refusal.not_one_node (place_in e (b ∷ r))
by_element room es k e (fault j r) = refused j (place_in e r)
by_element room es k e cut = refused Refusal.cut_short (length e)

-- the element e in the place of node k
unfoldable pub replace : ℕ → List Element → ℕ → List ℕ → Replacing
replace room es k e =
    cond (is_numbered k (length es))
    (cond (ltb most_bytes (length e)) (refused Refusal.too_long 0) (by_element room es k e (element.run e)))
    (refused Refusal.no_such_node 0)

-- 'Any other refusal changes nothing'
abbrev pub list_after : List Element → Replacing → List Element
list_after es (replaced new) = new
list_after es (refused n p) = es

-- ---- numbered replacements (02, W-208)

-- 'calls of both kinds': an unnumbered one is document 01's; the other has a number, 'whole and below 2^32' (`number_limit`; the code's type has no larger ones)
pub data Numbering : Type 0 where
  unnumbered : Numbering
  numbered : ℕ → Numbering

-- a replacing call: the number of its node, from 1, its own number if it has one, and the bytes of its element
pub record Call : Type 0 where
  pub node : ℕ
  pub numbering : Numbering
  pub element : List ℕ

-- the two kinds of call
abbrev pub plain_call : ℕ → List ℕ → Call
plain_call k e = record { node = k; numbering = unnumbered; element = e }

abbrev pub numbered_call : ℕ → ℕ → List ℕ → Call
numbered_call k n e = record { node = k; numbering = numbered n; element = e }

-- the number kept with node k, from 1, of numbers kept place by place. `call` asks it of a node that is there alone: for any other k it is some other place's number, or 0, and decides nothing
abbrev pub kept_at : List ℕ → ℕ → ℕ
kept_at ks k = get_or ks (k - 1) 0

-- 'late exactly if that [the call's number] is not larger [than the kept one], so 0 is always late'
abbrev pub is_late : ℕ → Numbering → Bool
is_late kept unnumbered = false
is_late kept (numbered n) = leb n kept

-- a call by the list alone, of which these numbers are kept: '28, late, its place 0, between 19 and 4', so for a node that is there, whatever its element; 'any other answers as an unnumbered
-- one does'. The order is 16, 19, 28, 4, the element's own fault, 10, 23, 13
unfoldable pub call : ℕ → List ℕ → List Element → Call → Replacing
call room kept es c =
    cond (is_late (kept_at kept c.node) c.numbering && is_numbered c.node (length es)) (refused Refusal.late 0) (replace room es c.node c.element)

-- 'Keep with each node the number of the newest replacement accepted there'; 'Unnumbered replacing leaves the kept number'
abbrev pub kept_by : List ℕ → ℕ → Numbering → List ℕ
kept_by kept k unnumbered = kept
kept_by kept k (numbered n) = set kept (k - 1) n

-- the kept numbers after the call; a refusal changes none of them, whatever its reason
abbrev pub kept_after : List ℕ → Call → Replacing → List ℕ
kept_after kept c (replaced es) = kept_by kept c.node c.numbering
kept_after kept c (refused n p) = kept
