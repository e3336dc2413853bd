-- What the answers of the code mean: the values stand in a small room, in the order of their indices; one that is not there is zero.
use Rattle.std.specs.Prelude.{◌≡◌, Bool, false, cond, not, ◌&&◌, ◌||◌, List, [], ◌∷◌, map, ℕ, ltb, length, get_or}
use Rattle.decimal.specs.declared.Decimal.{Decimal}
use Rattle.decimal.specs.Decimal as Decimals
use Rattle.decimal_value.specs.Value.{less, at_most, equal}
use Rattle.process_list.specs.declared.RangeStyle.{RangeStyle}
use Rattle.process_list.specs.declared.RangeEnd.{RangeEnd}
use Rattle.process_list.specs.declared.RangeEnd.TheVariants.{Minimum, Maximum}
use Rattle.process_list.specs.declared.Kind.{Kind}
use Rattle.process_list.specs.declared.Kind.TheVariants.{Range, OneEnd}
use Rattle.xml.specs.Bytes.{bytes, same}
use Rattle.xml.specs.Code.{Scan}
use Rattle.std.specs.Prelude.{Result, Ok, Err}
use Rattle.xml.specs.declared.Stop.{Stop}
use Rattle.room.specs.Room.{Room}
use Rattle.clf.specs.Nodes.{is_some, or_else, range_index, in_of, out_of, other_end, RangeState}
use Rattle.node_parts.specs.Code.{small_number_at, small_numbers}
use Rattle.range_node.specs.declared.RangeRead.{RangeRead}
use Rattle.refusals.specs.Refusals as Refusal

-- of four flags
abbrev pub any_of : List Bool → Bool
any_of l = get_or l 0 false || (get_or l 1 false || (get_or l 2 false || get_or l 3 false))

abbrev pub all_of : List Bool → Bool
all_of l = get_or l 0 false && (get_or l 1 false && (get_or l 2 false && get_or l 3 false))

-- the fault of a name, after the values of these flags
unfoldable pub range_fault_of : List Bool → List ℕ → ℕ
range_fault_of l w =
    cond (same w (bytes "Description")) (cond (any_of l) Refusal.wrong_element 0)
    (cond (ltb (range_index w) 4) (cond (get_or l (range_index w) false) Refusal.wrong_element 0) Refusal.wrong_element)

-- 'maxIn > minIn; maxOut ≥ minOut', of the numbers of a small room
unfoldable pub ordered_in : Room → Bool
ordered_in m = less (small_number_at m 0) (small_number_at m 1) && at_most (small_number_at m 2) (small_number_at m 3)

-- W-202: 'only the minimum or only the maximum pair', by the flags
unfoldable pub only_of : RangeEnd → List Bool → Bool
only_of e l = (get_or l (in_of e) false && get_or l (out_of e) false) && not (get_or l (in_of (other_end e)) false || get_or l (out_of (other_end e)) false)

-- the two numbers of a pair, in a small room
abbrev pub pair_in : RangeEnd → Room → List Decimal
pair_in e m = small_number_at m (in_of e) ∷ small_number_at m (out_of e) ∷ []

-- one pair alone: what the start tag does not allow is 7, unequal values are 21
unfoldable pub pair_missing : Bool → RangeEnd → Room → ℕ
pair_missing allowed e m = cond allowed (cond (equal (small_number_at m (in_of e)) (small_number_at m (out_of e))) 0 Refusal.rule_broken) Refusal.not_carried

-- what is missing at the end tag: four values out of order are 21; of one pair alone, as above; half a pair, or none, is 5
unfoldable pub missing_of : Bool → List Bool → Room → ℕ
missing_of allowed l m =
    cond (all_of l) (cond (ordered_in m) 0 Refusal.rule_broken)
    (cond (only_of Minimum l) (pair_missing allowed Minimum m)
    (cond (only_of Maximum l) (pair_missing allowed Maximum m) Refusal.wrong_element))

-- the end whose pair is there, where not all four are; where no pair is, the end tag is at fault (`missing_of`), and this is not asked for
abbrev pub end_found : List Bool → RangeEnd
end_found l = cond (only_of Minimum l) Minimum Maximum

-- the kind of the node, and its numbers out of a small room
unfoldable pub kind_found : RangeStyle → List Bool → Kind
kind_found style l = cond (all_of l) (Range style) (OneEnd (end_found l))

unfoldable pub numbers_found : List Bool → Room → List Decimal
numbers_found l m = cond (all_of l) (small_numbers m) (pair_in (end_found l) m)

-- four zeros
abbrev pub four_zeros : List Decimal
four_zeros = Decimals.zero ∷ Decimals.zero ∷ Decimals.zero ∷ Decimals.zero ∷ []

-- the place behind what was read
abbrev pub range_end : Result RangeRead Stop → Scan
range_end (Ok r) = Ok r.end
range_end (Err x) = Err x

-- the flags and the small room stand for the state st: a value that is not there yet is zero in the room
pub record RangeStands (m : Room) (found : List Bool) (st : RangeState) : Type 0 where
  pub found_is : found ≡ map is_some st.values
  pub numbers : small_numbers m ≡ map (or_else Decimals.zero) st.values
  pub four : length st.values ≡ 4
