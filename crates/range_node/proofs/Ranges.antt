-- The children of a Range, its content and the node, by their parts. Assumes nothing.
use Rattle.process_list.specs.declared.RangeStyle.{RangeStyle}
use Rattle.process_list.specs.declared.RangeStyle.TheVariants.{Clamp, NoClamp}
use Rattle.process_list.specs.declared.RangeEnd.TheVariants.{Minimum, Maximum}
use Rattle.process_list.specs.declared.Depth.{Depth}
use Rattle.process_list.specs.declared.Node.{Node}
use Rattle.process_list.specs.declared.Kind.{Kind}
use mathlib.Core.Path.{◌≡◌, refl, sym, ap, ◌∙◌}
use mathlib.Core.Bool.{Bool, true, false, cond}
use mathlib.Core.List.{List, [], ◌∷◌, map}
use mathlib.Core.Option.{some}
use Prim.Native.Nat.{ℕ, ◌+◌, ◌≤◌}
use native.Mathlib.Omega.{arith}
use lib.ListN.{length, set, length-set}
use Rattle.decimal.specs.declared.Decimal.{Decimal}
use Rattle.decimal.specs.Decimal as Decimals
use Rattle.grammar.specs.Parse.{Parser, bind_p, ret_p}
use Rattle.process_list.specs.declared.Kind.TheVariants.{Range, OneEnd}
use Rattle.process_list.specs.List.{Element, numbers_of, unplaced}
use Rattle.ids.specs.Ids.{held_id}
use Rattle.room.specs.Room.{Room, cleared_from}
use Rattle.xml.specs.Bytes.{same, bytes}
use Rattle.xml.specs.Xml.{Attribute, text_of, Tag, start_tag, end_tag}
use Rattle.xml.specs.Elements.{held, text_element}
use Rattle.xml.specs.Code.{Reads, no_value}
use Rattle.xml.specs.Code.{Scan}
use Rattle.std.specs.Prelude.{Ok, Err}
use Rattle.xml.specs.declared.Stop.{Stop}
use Rattle.xml.specs.declared.Stop.TheVariants.{Fault}
use Rattle.markup.specs.Next.{Behind}
use Rattle.markup.specs.declared.Item.TheVariants as Items
use Rattle.tags.specs.Code.{part_in, attributes_of}
use Rattle.tags.specs.Ended.{tag_of}
use Rattle.tags.specs.declared.Attributes.{Attributes}
use Rattle.tags.specs.declared.StartTag.{StartTag}
use Rattle.values.specs.Code.{Laid, NumbersRead}
use Rattle.clf.specs.Numbers.{value_element, any_number}
use Rattle.clf.specs.Nodes.{is_some, or_else, only_number, RangeState, no_values, range_index, range_body, range_fault, range_holder, range_texts, node_rules, range}
use Rattle.clf.specs.Nodes.{all_there, only_pair, depth_at, element_with, style_at, one_end_allowed, one_end_allowed_by, four_node, one_end_node, range_node}
use Rattle.node_parts.specs.Code.{NumbersIn, finished_node, small_numbers}
use Rattle.node_parts.specs.Held.{Goes, HeldAt, ReadsTo, SameCleared, NodeIs}
use Rattle.node_parts.proofs.Smalls.{small_one}
use Rattle.node_parts.proofs.Held.{went-both, child-refused, child-body, held-end}
use Rattle.node_parts.proofs.Reading.{no_tag, to_map, to-then, to-failed, to_part, numbers-to, text-to, finished-is}
use Rattle.range_node.specs.Code.{range_fault_of, missing_of, four_zeros, RangeStands, pair_in, kind_found, numbers_found}
use Rattle.process_list.proofs.Maps.{map-set}
use Rattle.range_node.proofs.Values.{faults, all, only, number_in, number-out, lacking, numbers}

-- ---- children

module _ (s : List ℕ) (m : Room) (found : List Bool) (st : RangeState) (v : RangeStands m found st) (R : RangeState → Type 0) where
  pub body-text : (w : List ℕ) (e : ℕ) (b : Scan) → R st → same w (bytes "Description") ≡ true → Reads 1 (text_element w).run no_value s e b
      → ReadsTo (range_body st w).run s e b R (Unit {0})
  body-text w e b g q h =
      rw q (to_map (text_element w).run s e R (Unit {0}) (λ x. st) b (λ x. Unit {0}) (λ x y. g) (text-to (text_element w).run s e b (Unit {0}) tt h))

  module _ (w : List ℕ) (e k : ℕ) (m₁ : Room) (next : List Bool) (q : k ≡ range_index w) (ef : next ≡ set found k true) where
    valued : (l : List Decimal) → NumbersIn 1 k m m₁ l → RangeStands m₁ next (record { values = set st.values (range_index w) (some (only_number l)) })
    valued [] g = absurd (omega (arith, g.counted))
    valued (d ∷ []) g = record {
      found_is = ef ∙ ap (λ (l : List Bool). set l k true) v.found_is
          ∙ ap (λ (i : ℕ). set (map is_some st.values) i true) q ∙ sym (map-set is_some st.values (range_index w) (some d));
      numbers = ap small_numbers g.room ∙ small_one k d m ∙ ap (λ (l : List Decimal). set l k d) v.numbers
          ∙ ap (λ (i : ℕ). set (map (or_else Decimals.zero) st.values) i d) q ∙ sym (map-set (or_else Decimals.zero) st.values (range_index w) (some d));
      four = length-set st.values (range_index w) (some d) ∙ v.four;
    }
    valued (d ∷ x ∷ l) g = absurd (omega (arith, g.counted))

    pub body-value : (b : Scan) → ((x : RangeState) → RangeStands m₁ next x → R x) → same w (bytes "Description") ≡ false
        → NumbersRead 1 (value_element w 1 any_number).run s e k b m m₁ → ReadsTo (range_body st w).run s e b R (Unit {0})
    body-value b f n h =
        rw n
        (to_map (value_element w 1 any_number).run s e R (Unit {0})
        (λ l. record { values = set st.values (range_index w) (some (only_number l)) }) b (NumbersIn 1 k m m₁) (λ l g. f _ (valued l g))
        (to_part (value_element w 1 any_number).run s e b (NumbersIn 1 k m m₁) (m₁ ≡ cleared_from k m) (Unit {0}) (λ y. tt)
        (numbers-to (value_element w 1 any_number).run s e 1 k m m₁ b h)))

  module _ (at e : ℕ) (w : List ℕ) (n : w ≡ part_in s (at + 1) e) (l : at + 2 ≤ e) (x : e ≤ length s) (k : ℕ) (q : k ≡ range_fault_of found w) (allowed : Bool) where
    blame : range_fault st w ≡ k
    blame = sym (q ∙ faults m found st v w)

    pub range-refused : (k ≡ 0 → ⊥) → Goes (range_holder allowed) st s at e (Err (Fault k at)) R (Unit {0})
    range-refused z = child-refused (range_holder allowed) st s at e w n l x R (Unit {0}) k blame z tt

    pub range-goes : (r : Scan) → k ≡ 0 → ReadsTo (range_body st w).run s e r R (Unit {0}) → Goes (range_holder allowed) st s at e r R (Unit {0})
    range-goes r z h = child-body (range_holder allowed) st s at e w n l x R (Unit {0}) r (blame ∙ z) h

-- ---- the content

pub range-start : (m : Room) → small_numbers m ≡ four_zeros → RangeStands m (false ∷ false ∷ false ∷ false ∷ []) no_values
range-start m q = record { found_is = refl; numbers = q; four = refl }

module _ (s : List ℕ) (at i : ℕ) (m : Room) (found : List Bool) (allowed : Bool) (v : HeldAt (range_holder allowed) no_values s at i (RangeStands m found)) where
  -- the end tag
  pub content-end : (R : RangeState → Type 0) → ((st : RangeState) → RangeStands m found st → R st) → (j : ℕ) → Behind s i (Ok Items.EndTag) j → (missing : ℕ) (r : Scan)
      → missing ≡ missing_of allowed found m → Reads 1 (end_tag (bytes "Range") missing).run no_value s j r → ReadsTo (held (range_holder allowed) no_values).run s at r R (Unit {0})
  content-end R g j l missing r q w =
      held-end (range_holder allowed) no_values s at i (RangeStands m found) v R (Unit {0}) j r l
      (λ st z. (rw (sym (lacking m found st z allowed) ∙ sym q) w, went-both r (R st) (Unit {0}) (g st z) tt))

-- ---- the node

-- the code's kind and numbers are those of the node
module _ (m : Room) (found : List Bool) (st : RangeState) (v : RangeStands m found st) (l : List Attribute) where
  abbrev node_by : Bool → Bool → Element
  node_by a b = cond a (four_node l st) (cond b (one_end_node l Minimum st) (one_end_node l Maximum st))

  kind-is : kind_found (style_at l) found ≡ (range_node l st).kind
  unfolding kind_found
  kind-is = rw (all m found st v, only m found st v Minimum) (go (all_there st) (only_pair Minimum st))
    where
      go : (a b : Bool) → cond a (Range (style_at l)) (OneEnd (cond b Minimum Maximum)) ≡ (node_by a b).kind
      go true b = refl
      go false true = refl
      go false false = refl

  numbers-are : numbers_found found m ≡ (range_node l st).numbers
  unfolding numbers_found
  numbers-are = rw (all m found st v, only m found st v Minimum) (go (all_there st) (only_pair Minimum st))
    where
      go : (a b : Bool) → cond a (small_numbers m) (pair_in (cond b Minimum Maximum) m) ≡ (node_by a b).numbers
      go true b = numbers m found st v
      go false true = rw (number_in m found st v Minimum, number-out m found st v Minimum)
      go false false = rw (number_in m found st v Maximum, number-out m found st v Maximum)

  -- as many as its kind has
  counted : length (range_node l st).numbers ≡ numbers_of (range_node l st).kind
  unfolding numbers_of
  counted = go (all_there st) (only_pair Minimum st)
    where
      go : (a b : Bool) → length (node_by a b).numbers ≡ numbers_of (node_by a b).kind
      go true b = refl
      go false true = refl
      go false false = refl

  depths-are : element_with l (range_node l st).kind (range_node l st).numbers ≡ range_node l st
  depths-are = go (all_there st) (only_pair Minimum st)
    where
      go : (a b : Bool) → element_with l (node_by a b).kind (node_by a b).numbers ≡ node_by a b
      go true b = refl
      go false true = refl
      go false false = refl

-- the code's style, depths and flag are those of the attributes
module _ (l : List Attribute) (unclamped : Bool) (style : RangeStyle) (input output : Depth) where
  style-is : unclamped ≡ same (text_of (bytes "style") l) (bytes "noClamp") → style ≡ cond unclamped NoClamp Clamp → style ≡ style_at l
  style-is p q = rw (q, p)

  pub allowed-is : (allowed : Bool) → unclamped ≡ same (text_of (bytes "style") l) (bytes "noClamp") → style ≡ cond unclamped NoClamp Clamp
      → input ≡ depth_at (bytes "inBitDepth") l → output ≡ depth_at (bytes "outBitDepth") l → allowed ≡ one_end_allowed style input output → allowed ≡ one_end_allowed_by l
  unfolding one_end_allowed_by
  allowed-is allowed p q i o k = rw (← style-is p q, ← i, ← o) k

  pub made-is : (s : List ℕ) (a : Attributes) (node : Node) (kind : Kind) (found : List Bool) (id : List ℕ) → l ≡ attributes_of s a
      → unclamped ≡ same (text_of (bytes "style") l) (bytes "noClamp") → style ≡ cond unclamped NoClamp Clamp
      → input ≡ depth_at (bytes "inBitDepth") l → output ≡ depth_at (bytes "outBitDepth") l → id ≡ held_id (text_of (bytes "id") l) → kind ≡ kind_found style found
      → node ≡ unplaced kind input output id → node ≡ finished_node s a (kind_found (style_at l) found)
  unfolding finished_node
  made-is s a node kind found id y p q i o d k n = rw (← style-is p q, ← y, ← i, ← o, ← d, n, k)

abbrev opens : Parser Tag
opens = (start_tag (node_rules (λ w. 0) range_texts)).run

abbrev rest_of : Tag → Parser Element
rest_of t = bind_p (held (range_holder (one_end_allowed_by t.attributes)) no_values).run (λ st. ret_p (range_node t.attributes st))

module _ (s : List ℕ) (at base : ℕ) (R : Element → Type 0) where
  -- the start tag is at fault
  pub range-failed : (m : Room) (x : Stop) → Reads 1 opens no_tag s at (Err x) → ReadsTo range.run s at (Err x) R (SameCleared base m m)
  unfolding range
  range-failed m x v = to-failed opens s at R (SameCleared base m m) rest_of no_tag (Err x) tt (range_node [] no_values) refl v

  -- behind it the content is read, of which Q holds; where it stops, nothing has changed in the room
  pub range-read : (tag : StartTag) (m₀ m₁ : Room) (q : ℕ) (r : Scan) (Q : RangeState → Type 0) (allowed : Bool) → ((st : RangeState) → Q st → R (range_node (attributes_of s tag.attributes) st))
      → (Unit {0} → SameCleared base m₀ m₁) → Reads 1 opens (λ e. tag_of s tag) s at (Ok q) → allowed ≡ one_end_allowed_by (attributes_of s tag.attributes)
      → ReadsTo (held (range_holder allowed) no_values).run s q r Q (Unit {0}) → ReadsTo range.run s at r R (SameCleared base m₀ m₁)
  unfolding tag_of range
  range-read tag m₀ m₁ q r Q allowed g f v k w =
      let l : List Attribute = attributes_of s tag.attributes in
      to-then opens s at R (SameCleared base m₀ m₁) rest_of (λ e. tag_of s tag) q r v
      (to_map (held (range_holder (one_end_allowed_by l)) no_values).run s q R (SameCleared base m₀ m₁) (λ st. range_node l st) r Q g
      (to_part (held (range_holder (one_end_allowed_by l)) no_values).run s q r Q (Unit {0}) (SameCleared base m₀ m₁) f (rw k at w)))

-- the node that is finished
pub range-is : (s : List ℕ) (base : ℕ) (m₀ m₁ m : Room) (a : Attributes) (e : ℕ) (node : Node) (found : List Bool) (st : RangeState) → RangeStands m found st
    → Laid base (numbers_found found m) m₀ m₁ → node ≡ finished_node s a (kind_found (style_at (attributes_of s a)) found)
    → NodeIs base m₀ m₁ (record { end = e; node = node }) (range_node (attributes_of s a) st)
range-is s base m₀ m₁ m a e node found st x h y =
    let l : List Attribute = attributes_of s a in
    let n = range_node l st in
    let made = finished-is s base m₀ m₁ a e n.kind n.numbers (counted m found st x l) (rw (numbers-are m found st x l) at h) in
    rw (y, kind-is m found st x l) (rw (depths-are m found st x l) at made)
