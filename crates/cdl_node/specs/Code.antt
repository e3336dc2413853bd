-- SOPNode and SatNode as parts of an ASC_CDL, and what the answers of the code mean: the ten numbers stand in a small room, in the order in which the list holds them.
use Rattle.std.specs.Prelude.{◌≡◌, Bool, cond, ◌||◌, List, [], ◌++◌, ℕ, ◌≤◌, ltb, length}
use Rattle.decimal.specs.declared.Decimal.{Decimal}
use Rattle.grammar.specs.Grammar.{G, ret, seq, ◌>>◌}
use Rattle.xml.specs.Bytes.{bytes, same}
use Rattle.xml.specs.Xml.{start_tag}
use Rattle.xml.specs.Elements.{Holder, held}
use Rattle.xml.specs.Code.{Scan}
use Rattle.std.specs.Prelude.{Result, Ok, Err}
use Rattle.xml.specs.declared.Stop.{Stop}
use Rattle.tags.specs.declared.TagEnd.{TagEnd}
use Rattle.tags.specs.declared.TagEnd.TheVariants as Ends
use Rattle.room.specs.Room.{Room}
use Rattle.values.specs.Code.{Laid}
use Rattle.clf.specs.Numbers.{value_element, not_below_zero}
use Rattle.clf.specs.Nodes.{is_some, not_empty_rules, sop_name, sop_rule, CdlState, no_cdl, cdl_holder, sop_numbers, sat_numbers}
use Rattle.node_parts.specs.Code.{small_numbers}
use Rattle.node_parts.specs.Held.{ReadsTo}
use Rattle.cdl_node.specs.declared.CdlPart.{CdlPart}
use Rattle.cdl_node.specs.declared.CdlPart.TheVariants.{Sop, Sat}
use Rattle.cdl_node.specs.declared.CdlRead.{CdlRead}
use Rattle.refusals.specs.Refusals as Refusal

-- ---- SOPNode and SatNode

abbrev pub name_of : CdlPart → List ℕ
name_of Sop = bytes "SOPNode"
name_of Sat = bytes "SatNode"

-- how many numbers an element in it has, how many it has in all, and where the first stands in the small room
abbrev pub width_of : CdlPart → ℕ
width_of Sop = 3
width_of Sat = 1

abbrev pub top_of : CdlPart → ℕ
top_of Sop = 9
top_of Sat = 1

abbrev pub base_of : CdlPart → ℕ
base_of Sop = 0
base_of Sat = 9

-- the fault of a name after n numbers, and the rule on the next ones
abbrev pub part_fault_of : CdlPart → ℕ → List ℕ → ℕ
part_fault_of Sop n w = cond (same w (sop_name n)) 0 Refusal.wrong_element
part_fault_of Sat n w = cond (ltb n 1) (cond (same w (bytes "Saturation")) 0 Refusal.wrong_element) Refusal.wrong_element

abbrev pub rules_in : CdlPart → ℕ → Decimal → ℕ
rules_in Sop n = sop_rule n
rules_in Sat n = not_below_zero

-- sat_holder or sop_holder
abbrev pub inner_holder : CdlPart → Holder (List Decimal)
inner_holder part = record {
  name = name_of part;
  missing = λ l. cond (ltb (length l) (top_of part)) Refusal.wrong_element 0;
  fault = λ l w. part_fault_of part (length l) w;
  body = λ l w. seq (value_element w (width_of part) (rules_in part (length l))) (λ m. ret (l ++ m));
}

-- sat_node or sop_node
abbrev pub inner_node : CdlPart → G (List Decimal)
inner_node part = start_tag not_empty_rules >> held (inner_holder part) []

-- the numbers l have been read, `count` of them, and stand in the small room
pub record InnerStands (part : CdlPart) (m₀ m₁ : Room) (count : ℕ) (l : List Decimal) : Type 0 where
  pub counted : count ≡ length l
  pub few : length l ≤ top_of part
  pub room : Laid (base_of part) l m₀ m₁

-- ---- ASC_CDL

-- the fault of a name where SOPNode and SatNode were there or not
unfoldable pub cdl_fault_of : Bool → Bool → List ℕ → ℕ
cdl_fault_of sop sat w =
    cond (same w (bytes "Description")) (cond (sop || sat) Refusal.wrong_element 0)
    (cond (same w (bytes "SOPNode")) (cond (sop || sat) Refusal.wrong_element 0)
    (cond (same w (bytes "SatNode")) (cond sat Refusal.wrong_element 0) Refusal.wrong_element))

-- the ten numbers where nothing was read: 'Absent parts read as 1, 0, 1 and 1'
abbrev pub absent_parts : List Decimal
absent_parts = sop_numbers no_cdl ++ sat_numbers no_cdl

-- the place behind a child
abbrev pub cdl_end : Result CdlRead Stop → Scan
cdl_end (Ok r) = Ok r.end
cdl_end (Err x) = Err x

-- the numbers of a small room are those of the state st
pub record CdlNumbers (m : Room) (st : CdlState) : Type 0 where
  pub numbers : small_numbers m ≡ sop_numbers st ++ sat_numbers st
  pub nine : length (sop_numbers st) ≡ 9
  pub one : length (sat_numbers st) ≡ 1

-- the code's flags and the small room stand for the state st
pub record CdlStands (m : Room) (sop sat : Bool) (st : CdlState) : Type 0 where
  pub sop_is : sop ≡ is_some st.sop
  pub sat_is : sat ≡ is_some st.sat
  pub held : CdlNumbers m st

-- what follows a start tag that ended so
abbrev pub Followed : List ℕ → TagEnd → Room → Scan → Type 0
Followed s (Ends.Open q) m r = ReadsTo (held cdl_holder no_cdl).run s q r (CdlNumbers m) (Unit {0})
Followed s (Ends.Empty q) m r = (r ≡ Ok q) × CdlNumbers m no_cdl
