-- Range in front of what follows it, with four values or with one end. Assumes nothing.
use Rattle.process_list.specs.declared.RangeStyle.{RangeStyle}
use Rattle.process_list.specs.declared.RangeStyle.TheVariants.{Clamp, NoClamp}
use Rattle.process_list.specs.declared.RangeEnd.{RangeEnd}
use Rattle.process_list.specs.declared.RangeEnd.TheVariants.{Minimum, Maximum}
use Rattle.process_list.specs.List.{Element, same_depth}
use mathlib.Core.Path.{◌≡◌, refl, ap, ◌∙◌}
use mathlib.Core.Bool.{Bool, true, false, ◌&&◌}
use mathlib.Core.List.{List, [], ◌∷◌, ◌++◌}
use mathlib.Core.Option.{some}
use Prim.Native.Nat.{ℕ}
use lib.Dec.{ltb}
use lib.ListN.{set}
use Rattle.decimal.specs.declared.Decimal.{Decimal}
use Rattle.decimal_value.specs.Value.{less, at_most, equal}
use Rattle.process_list.specs.declared.Depth.{Depth}
use Rattle.process_list.specs.declared.Kind.{Kind}
use Rattle.process_list.specs.declared.Kind.TheVariants.{Range, OneEnd}
use Rattle.grammar.specs.Parse.{Out, done, then_out, ret_p}
use Rattle.xml.specs.Bytes.{bytes, same, is_letter, is_digit, is_name_byte}
use Rattle.xml.specs.Xml.{Attribute, text_of, Tag}
use Rattle.xml.specs.Elements.{Holder, held}
use Rattle.ids.specs.Ids.{id_allowed}
use Rattle.clf.specs.Numbers.{any_number}
use Rattle.clf.specs.Nodes.{element_with, node_rules, RangeState, no_values, is_there, range_index, only_number, in_of, out_of, only_pair, pair_equal, one_end_fault, range_missing, range_holder, range_texts}
use Rattle.clf.specs.Nodes.{range_style, style_at, depth_at, one_end_allowed, one_end_allowed_by, range_node, range}
use Rattle.claims.proofs.Numbers.{Each, Kept}
use Rattle.valid.specs.Valid.{every}
use Rattle.written_form.specs.Written.{range_style_text}
use Rattle.written_form.proofs.Tail.{value_text, range_text, pair_text, one_end_text, depths_text, node_id_text}
use Rattle.reads_back.proofs.Texts.{is_name}
use Rattle.reads_back.proofs.Tags.{quoted}
use Rattle.reads_back.proofs.Held.{held_from, held-from, held-line, held-end}
use Rattle.reads_back.proofs.Values.{value-child}
use Rattle.reads_back.proofs.Depths.{with_depths, depth-said, id_of, id-said-first, last_text, node-is, NodeRules, LastName, style-last, last-said, last-tag}

pub range-name : is_name (bytes "Range") ≡ true
unfolding is_name is_name_byte is_letter is_digit every
range-name = refl

-- ---- one value

-- w is the name of the value of index i
record ValueName (w : List ℕ) (i : ℕ) : Type 0 where
  name : is_name w ≡ true
  index : range_index w ≡ i
  known : ltb i 4 ≡ true
  other : same w (bytes "Description") ≡ false

-- the names of an end's in value and out value
abbrev in_name : RangeEnd → List ℕ
in_name Minimum = bytes "minInValue"
in_name Maximum = bytes "maxInValue"

abbrev out_name : RangeEnd → List ℕ
out_name Minimum = bytes "minOutValue"
out_name Maximum = bytes "maxOutValue"

in-name : (e : RangeEnd) → ValueName (in_name e) (in_of e)
unfolding is_name is_name_byte is_letter is_digit every same range_index
in-name Minimum = record { name = refl; index = refl; known = refl; other = refl }
in-name Maximum = record { name = refl; index = refl; known = refl; other = refl }

out_name_lem : (e : RangeEnd) → ValueName (out_name e) (out_of e)
unfolding is_name is_name_byte is_letter is_digit every same range_index
out_name_lem Minimum = record { name = refl; index = refl; known = refl; other = refl }
out_name_lem Maximum = record { name = refl; index = refl; known = refl; other = refl }

-- the values, and the number d as that of index i
abbrev with_value : RangeState → ℕ → Decimal → RangeState
with_value st i d = record { values = set st.values i (some d) }

-- the values of a Range with four, and of one with one end
abbrev four_values : Decimal → Decimal → Decimal → Decimal → RangeState
four_values a b c d = with_value (with_value (with_value (with_value no_values 0 a) 1 b) 2 c) 3 d

abbrev pair_values : RangeEnd → Decimal → Decimal → RangeState
pair_values end a b = with_value (with_value no_values (in_of end) a) (out_of end) b

module _ (allowed : Bool) where
  abbrev holder : Holder RangeState
  holder = range_holder allowed

  -- a value that has not been there
  one_value : (st : RangeState) (w : List ℕ) (i : ℕ) (d : Decimal) (t : List ℕ) → ValueName w i → is_there i st ≡ false → Kept any_number d
      → held_from holder st (value_text w (d ∷ []) t) ≡ held_from holder (with_value st i d) t
  one_value st w i d t n f k =
      value-child holder st (with_value st i d) w 1 any_number (d ∷ []) t n.name (k, tt) refl (rw (n.other, n.index, n.known, f))
      (λ s r e. rw (n.other, n.index) (ap (λ (o : Out (List Decimal)). then_out o (λ l. ret_p (with_value st i (only_number l)))) e))

  -- values behind an LF, and the end tag
  content-reads : (st : RangeState) (s t : List ℕ) → held_from holder no_values s ≡ held_from holder st (bytes "</Range>" ++ t) → range_missing allowed st ≡ 0
      → (held holder no_values).run (10 ∷ s) ≡ done st t
  content-reads st s t walk e = held-from holder no_values (10 ∷ s) ∙ held-line holder no_values s ∙ walk ∙ held-end holder st t range-name e

  -- ---- four values, whatever the start tag says
  module _ (a b c d : Decimal) where
    four-read : (t : List ℕ) → Each (Kept any_number) (a ∷ b ∷ c ∷ d ∷ []) → held_from holder no_values (range_text (a ∷ b ∷ c ∷ d ∷ []) t) ≡ held_from holder (four_values a b c d) t
    unfolding range_text
    four-read t k =
        let r4 : List ℕ = value_text (bytes "maxOutValue") (d ∷ []) t in
        let r3 : List ℕ = value_text (bytes "minOutValue") (c ∷ []) r4 in
        let r2 : List ℕ = value_text (bytes "maxInValue") (b ∷ []) r3 in
        one_value no_values (in_name Minimum) 0 a r2 (in-name Minimum) refl k.0
        ∙ one_value (with_value no_values 0 a) (in_name Maximum) 1 b r3 (in-name Maximum) refl k.1.0
        ∙ one_value (with_value (with_value no_values 0 a) 1 b) (out_name Minimum) 2 c r4 (out_name_lem Minimum) refl k.1.1.0
        ∙ one_value (with_value (with_value (with_value no_values 0 a) 1 b) 2 c) (out_name Maximum) 3 d t (out_name_lem Maximum) refl k.1.1.1.0

    four-right : (less a b && at_most c d) ≡ true → range_missing allowed (four_values a b c d) ≡ 0
    unfolding range_missing
    four-right e = rw e

-- ---- one pair

-- neither value has been there
in-new : (end : RangeEnd) → is_there (in_of end) no_values ≡ false
in-new Minimum = refl
in-new Maximum = refl

out-new : (end : RangeEnd) (a : Decimal) → is_there (out_of end) (with_value no_values (in_of end) a) ≡ false
out-new Minimum a = refl
out-new Maximum a = refl

-- the text of an end is that of its pair, under its names
pair-text : (end : RangeEnd) (ds : List Decimal) (t : List ℕ) → one_end_text end ds t ≡ pair_text (in_name end) (out_name end) ds t
unfolding one_end_text
pair-text Minimum ds t = refl
pair-text Maximum ds t = refl

-- under a start tag that allows it, the pair is all that is asked for
pair-right : (end : RangeEnd) (a b : Decimal) → equal a b ≡ true → range_missing true (pair_values end a b) ≡ 0
unfolding range_missing only_pair one_end_fault pair_equal
pair-right Minimum a b e = rw e
pair-right Maximum a b e = rw e

-- and the node is one with this end
pair-node : (l : List Attribute) (end : RangeEnd) (a b : Decimal) → range_node l (pair_values end a b) ≡ element_with l (OneEnd end) (a ∷ b ∷ [])
unfolding only_pair
pair-node l Minimum a b = refl
pair-node l Maximum a b = refl

-- its two values, one after the other
pair_read : (end : RangeEnd) (a b : Decimal) (t : List ℕ) → Each (Kept any_number) (a ∷ b ∷ [])
    → held_from (range_holder true) no_values (one_end_text end (a ∷ b ∷ []) t) ≡ held_from (range_holder true) (pair_values end a b) t
unfolding pair_text
pair_read end a b t k =
    ap (held_from (range_holder true) no_values) (pair-text end (a ∷ b ∷ []) t)
    ∙ one_value true no_values (in_name end) (in_of end) a (value_text (out_name end) (b ∷ []) t) (in-name end) (in-new end) k.0
    ∙ one_value true (with_value no_values (in_of end) a) (out_name end) (out_of end) b t (out_name_lem end) (out-new end a) k.1.0

-- ---- the start tag

abbrev range-rules : NodeRules (node_rules (λ w. 0) range_texts)
range-rules = record { rest = range_texts; texts = refl; opened = refl; in-free = refl; out-free = refl; id-free = refl }

-- the style of a Range
abbrev clamp_text : RangeStyle → List ℕ
clamp_text Clamp = bytes "Clamp"
clamp_text NoClamp = bytes "noClamp"

style-text : (style : RangeStyle) (t : List ℕ) → range_style_text style ++ t ≡ last_text (bytes "style") (clamp_text style) t
style-text Clamp t = refl
style-text NoClamp t = refl

style-quoted : (style : RangeStyle) → quoted (clamp_text style) ≡ true
unfolding every
style-quoted Clamp = refl
style-quoted NoClamp = refl

style-right : (style : RangeStyle) → range_texts (bytes "style") (clamp_text style) ≡ 0
unfolding same
style-right Clamp = refl
style-right NoClamp = refl

style-of : (style : RangeStyle) → range_style (clamp_text style) ≡ style
unfolding same
style-of Clamp = refl
style-of NoClamp = refl

-- its attribute stands last
styled : LastName (node_rules (λ w. 0) range_texts) (bytes "style")
styled = style-last (node_rules (λ w. 0) range_texts) refl

module _ (i o : Depth) (id : List ℕ) (h : id_allowed id ≡ true) where
  -- the attributes of a written Range: those behind its depths, and all
  abbrev behind_depths : RangeStyle → List Attribute
  behind_depths style = id_of id ++ record { name = bytes "style"; text = clamp_text style } ∷ []

  abbrev written : RangeStyle → List Attribute
  written style = with_depths i o (behind_depths style)

  kind-said : (style : RangeStyle) → style_at (written style) ≡ style
  kind-said style = ap range_style (last-said (node_rules (λ w. 0) range_texts) range-rules (bytes "style") styled i o id (clamp_text style)) ∙ style-of style

  in-said : (style : RangeStyle) → depth_at (bytes "inBitDepth") (written style) ≡ i
  unfolding text_of same
  in-said style = rw (depth-said i)

  out-said : (style : RangeStyle) → depth_at (bytes "outBitDepth") (written style) ≡ o
  unfolding text_of same
  out-said style = rw (depth-said o)

  -- the node is the element
  element-is : (style : RangeStyle) (kind : Kind) (ns : List Decimal) → element_with (written style) kind ns ≡ record { kind = kind; input = i; output = o; id = id; numbers = ns }
  element-is style kind ns = node-is i o id (behind_depths style) kind ns (id-said-first id (bytes "style") (clamp_text style) styled.id-not)

  -- W-202: equal depths and style Clamp allow one pair alone
  clamp-allowed : same_depth i o ≡ true → one_end_allowed_by (written Clamp) ≡ true
  unfolding one_end_allowed_by one_end_allowed
  clamp-allowed e = rw (kind-said Clamp, in-said Clamp, out-said Clamp, e)

  -- the start tag, in front of a content that is read
  tagged : (style : RangeStyle) (s : List ℕ) (st : RangeState) (t : List ℕ) → (held (range_holder (one_end_allowed_by (written style))) no_values).run (10 ∷ s) ≡ done st t
      → range.run (depths_text i o (node_id_text id (range_style_text style ++ (bytes ">\n" ++ s)))) ≡ done (range_node (written style) st) t
  unfolding range
  tagged style s st t e =
      ap (λ (u : List ℕ). range.run (depths_text i o (node_id_text id u))) (style-text style (62 ∷ 10 ∷ s))
      ∙ ap (λ (x : Out Tag). then_out x (λ tag u. then_out ((held (range_holder (one_end_allowed_by tag.attributes)) no_values).run u) (λ st. ret_p (range_node tag.attributes st))))
      (last-tag (node_rules (λ w. 0) range_texts) range-rules i o id h (bytes "style") styled (clamp_text style) (10 ∷ s) (style-quoted style) (style-right style))
      ∙ ap (λ (x : Out RangeState). then_out x (λ st. ret_p (range_node (written style) st))) e

  -- A RANGE WITH FOUR VALUES
  pub range-reads : (a b c d : Decimal) (style : RangeStyle) (t : List ℕ) → Each (Kept any_number) (a ∷ b ∷ c ∷ d ∷ []) → (less a b && at_most c d) ≡ true
      → range.run (depths_text i o (node_id_text id (range_style_text style ++ (bytes ">\n" ++ range_text (a ∷ b ∷ c ∷ d ∷ []) (bytes "</Range>" ++ t)))))
      ≡ done (record { kind = Range style; input = i; output = o; id = id; numbers = a ∷ b ∷ c ∷ d ∷ [] }) t
  range-reads a b c d style t k e =
      let z : List ℕ = bytes "</Range>" ++ t in
      let l = written style in
      let v = one_end_allowed_by l in
      tagged style (range_text (a ∷ b ∷ c ∷ d ∷ []) z) (four_values a b c d) t (content-reads v (four_values a b c d) (range_text (a ∷ b ∷ c ∷ d ∷ []) z) t (four-read v a b c d z k) (four-right v a b c d e))
      ∙ ap (λ (u : RangeStyle). done (element_with l (Range u) (a ∷ b ∷ c ∷ d ∷ [])) t) (kind-said style)
      ∙ ap (λ (x : Element). done x t) (element-is style (Range style) (a ∷ b ∷ c ∷ d ∷ []))

  -- A RANGE WITH ONE END
  pub one-end-reads : (end : RangeEnd) (a b : Decimal) (t : List ℕ) → Each (Kept any_number) (a ∷ b ∷ []) → equal a b ≡ true → same_depth i o ≡ true
      → range.run (depths_text i o (node_id_text id (range_style_text Clamp ++ (bytes ">\n" ++ one_end_text end (a ∷ b ∷ []) (bytes "</Range>" ++ t)))))
      ≡ done (record { kind = OneEnd end; input = i; output = o; id = id; numbers = a ∷ b ∷ [] }) t
  one-end-reads end a b t k e d =
      let z : List ℕ = bytes "</Range>" ++ t in
      let s : List ℕ = one_end_text end (a ∷ b ∷ []) z in
      tagged Clamp s (pair_values end a b) t
      (ap (λ (v : Bool). (held (range_holder v) no_values).run (10 ∷ s)) (clamp-allowed d) ∙ content-reads true (pair_values end a b) s t (pair_read end a b z k) (pair-right end a b e))
      ∙ ap (λ (x : Element). done x t) (pair-node (written Clamp) end a b ∙ element-is Clamp (OneEnd end) (a ∷ b ∷ []))
