-- The children of an ASC_CDL, its content and the node, by their parts. Assumes nothing.
use Rattle.process_list.specs.declared.CdlStyle.{CdlStyle}
use mathlib.Core.Path.{◌≡◌, refl, sym, ap, ◌∙◌, subst}
use mathlib.Core.Bool.{Bool, true, false}
use mathlib.Core.List.{List, [], ◌++◌, append-nil, append_assoc}
use mathlib.Core.Option.{some}
use Prim.Native.Nat.{ℕ, ◌+◌, ◌≤◌}
use native.Mathlib.Omega.{arith}
use lib.ListN.{length, take, drop, length-append}
use lib.Seq.{take_at, drop_at}
use Rattle.decimal.specs.declared.Decimal.{Decimal}
use Rattle.grammar.specs.Parse.{Out, Parser, then_out, bind_p, ret_p}
use Rattle.process_list.specs.declared.Kind.TheVariants.{Cdl}
use Rattle.process_list.specs.List.{Element, numbers_of}
use Rattle.room.specs.Room.{Room, room_length, laid}
use Rattle.room.proofs.Contents.{laid-fits}
use Rattle.xml.specs.Bytes.{same, bytes}
use Rattle.xml.specs.Xml.{Tag, text_of, start_tag, end_tag}
use Rattle.xml.specs.Elements.{held, text_element}
use Rattle.xml.specs.Code.{Reads, no_value}
use Rattle.xml.specs.Code.{Scan}
use Rattle.std.specs.Prelude.{Ok, Err}
use Rattle.xml.specs.declared.Stop.{Stop}
use Rattle.xml.specs.declared.Stop.TheVariants.{Fault}
use Rattle.markup.specs.Next.{Behind}
use Rattle.markup.specs.declared.Item.TheVariants as Items
use Rattle.tags.specs.Code.{part_in, attributes_of}
use Rattle.tags.specs.Rules.{rules_of}
use Rattle.tags.specs.Ended.{TagRead, tag_with, tag_open, tag-empty, tag-failed}
use Rattle.tags.specs.declared.Attributes.{Attributes}
use Rattle.tags.specs.declared.StartTag.{StartTag}
use Rattle.tags.specs.declared.TagEnd.{TagEnd}
use Rattle.tags.specs.declared.TagEnd.TheVariants as Ends
use Rattle.tags.specs.declared.TagKind.TheVariants as Tags
use Rattle.values.specs.Code.{Laid}
use Rattle.clf.specs.Nodes.{is_some, CdlState, no_cdl, cdl_body, cdl_fault, cdl_holder, cdl_rules, cdl_content, cdl_style, cdl_node, asc_cdl, sop_node, sat_node, sop_numbers, sat_numbers}
use Rattle.node_parts.specs.Code.{NumbersIn, finished_node, small_numbers}
use Rattle.node_parts.specs.Held.{Goes, HeldAt, ReadsTo, SameCleared, NodeIs}
use Rattle.node_parts.proofs.Smalls.{numbers-length, small-laid}
use Rattle.node_parts.proofs.Held.{went-both, child-refused, child-body, held-end}
use Rattle.node_parts.proofs.Reading.{no_tag, to_map, to-then, to-failed, to_part, text-to, finished-is}
use Rattle.cdl_node.specs.Code.{inner_node, cdl_fault_of, absent_parts, CdlNumbers, CdlStands, Followed}
use Rattle.cdl_node.specs.declared.CdlPart.TheVariants.{Sop, Sat}

-- ---- one run in the place of another

module _ (n : ℕ) (a o b x : List Decimal) (e : length x ≡ length o) (h : n ≡ length a + length o + length b) where
  abbrev old : List Decimal
  old = a ++ (o ++ b)

  over : laid n (length a) x old ≡ a ++ (x ++ b)
  over =
      let l : length old ≡ length a + (length o + length b) = length-append a (o ++ b) ∙ ap (λ (i : ℕ). length a + i) (length-append o b) in
      let t : take (length a) old ≡ a = take_at a (o ++ b) (length a) refl in
      let j : length a + length x ≡ length (a ++ o) = ap (λ (i : ℕ). length a + i) e ∙ sym (length-append a o) in
      let d : drop (length a + length x) old ≡ b = ap (drop (length a + length x)) (sym (append_assoc a o b)) ∙ drop_at (a ++ o) b (length a + length x) (sym j) in
      laid-fits n (length a) x old (omega arith) (omega arith)
      ∙ ap (λ (y : List Decimal). y ++ x ++ drop (length a + length x) old) t ∙ ap (λ (y : List Decimal). a ++ x ++ y) d ∙ append_assoc a x b

module _ (n : ℕ) (S T l : List Decimal) (h : n ≡ length S + length T) where
  -- new numbers in the place of S, and of T
  first : length l ≡ length S → laid n 0 l (S ++ T) ≡ l ++ T
  first e = over n [] S T l e (omega arith)

  second : length l ≡ length T → laid n (length S) l (S ++ T) ≡ S ++ l
  second e =
      ap (λ (y : List Decimal). laid n (length S) l (S ++ y)) (sym (append-nil T)) ∙ over n S T [] l e (omega arith) ∙ ap (λ (y : List Decimal). S ++ y) (append-nil l)

-- ---- children

module _ (s : List ℕ) (m : Room) (sop sat : Bool) (st : CdlState) (v : CdlStands m sop sat st) where
  room : room_length m ≡ length (sop_numbers st) + length (sat_numbers st)
  room = sym (numbers-length m) ∙ ap length v.held.numbers ∙ length-append (sop_numbers st) (sat_numbers st)

  -- the room's numbers where l has been laid
  laid-over : (at : ℕ) (l : List Decimal) (m₁ : Room) → Laid at l m m₁ → small_numbers m₁ ≡ laid (room_length m) at l (sop_numbers st ++ sat_numbers st)
  laid-over at l m₁ e = ap small_numbers e ∙ small-laid at l m ∙ ap (laid (room_length m) at l) v.held.numbers

  module _ (R : CdlState → Type 0) (w : List ℕ) (e : ℕ) (b : Scan) where
    pub body-sop : (m₁ : Room) → ((x : CdlState) → CdlStands m₁ true sat x → R x) → same w (bytes "SOPNode") ≡ true
        → ReadsTo (inner_node Sop).run s e b (NumbersIn 9 0 m m₁) (Unit {0}) → ReadsTo (cdl_body st w).run s e b R (Unit {0})
    unfolding sop_node
    body-sop m₁ f q h =
        rw q
        (to_map sop_node.run s e R (Unit {0}) (λ l. record { sop = some l; sat = st.sat }) b (NumbersIn 9 0 m m₁)
        (λ l g.
        let n : length l ≡ length (sop_numbers st) = g.counted ∙ sym v.held.nine in
        f (record { sop = some l; sat = st.sat }) (record {
          sop_is = refl;
          sat_is = v.sat_is;
          held = record {
            numbers = laid-over 0 l m₁ g.room ∙ first (room_length m) (sop_numbers st) (sat_numbers st) l room n;
            nine = g.counted;
            one = v.held.one;
          };
        }))
        h)

    pub body-sat : (m₁ : Room) → ((x : CdlState) → CdlStands m₁ sop true x → R x) → same w (bytes "SOPNode") ≡ false → same w (bytes "SatNode") ≡ true
        → ReadsTo (inner_node Sat).run s e b (NumbersIn 1 9 m m₁) (Unit {0}) → ReadsTo (cdl_body st w).run s e b R (Unit {0})
    unfolding sat_node
    body-sat m₁ f q q₂ h =
        rw (q, q₂)
        (to_map sat_node.run s e R (Unit {0}) (λ l. record { sop = st.sop; sat = some l }) b (NumbersIn 1 9 m m₁)
        (λ l g.
        let n : length l ≡ length (sat_numbers st) = g.counted ∙ sym v.held.one in
        f (record { sop = st.sop; sat = some l }) (record {
          sop_is = v.sop_is;
          sat_is = refl;
          held = record {
            numbers = laid-over 9 l m₁ g.room ∙ ap (λ (i : ℕ). laid (room_length m) i l (sop_numbers st ++ sat_numbers st)) (sym v.held.nine)
                ∙ second (room_length m) (sop_numbers st) (sat_numbers st) l room n;
            nine = v.held.nine;
            one = g.counted;
          };
        }))
        h)

    pub body-text : R st → same w (bytes "SOPNode") ≡ false → same w (bytes "SatNode") ≡ false → Reads 1 (text_element w).run no_value s e b
        → ReadsTo (cdl_body st w).run s e b R (Unit {0})
    body-text g q q₂ h =
        rw (q, q₂) (to_map (text_element w).run s e R (Unit {0}) (λ x. st) b (λ x. Unit {0}) (λ x y. g) (text-to (text_element w).run s e b (Unit {0}) tt h))

  module _ (at e : ℕ) (w : List ℕ) (n : w ≡ part_in s (at + 1) e) (l : at + 2 ≤ e) (x : e ≤ length s) (k : ℕ) (q : k ≡ cdl_fault_of sop sat w) (R : CdlState → Type 0) where
    by_flags : cdl_fault_of (is_some st.sop) (is_some st.sat) w ≡ cdl_fault st w
    unfolding cdl_fault_of
    by_flags = refl

    blame : cdl_fault st w ≡ k
    blame = sym (q ∙ ap (λ (b : Bool). cdl_fault_of b sat w) v.sop_is ∙ ap (λ (b : Bool). cdl_fault_of (is_some st.sop) b w) v.sat_is ∙ by_flags)

    pub cdl-refused : (k ≡ 0 → ⊥) → Goes cdl_holder st s at e (Err (Fault k at)) R (Unit {0})
    cdl-refused z = child-refused cdl_holder st s at e w n l x R (Unit {0}) k blame z tt

    pub cdl-goes : (r : Scan) → k ≡ 0 → ReadsTo (cdl_body st w).run s e r R (Unit {0}) → Goes cdl_holder st s at e r R (Unit {0})
    cdl-goes r z h = child-body cdl_holder st s at e w n l x R (Unit {0}) r (blame ∙ z) h

-- ---- the content

pub cdl-absent : (m : Room) → small_numbers m ≡ absent_parts → CdlNumbers m no_cdl
cdl-absent m q = record { numbers = q; nine = refl; one = refl }

pub cdl-start : (m : Room) → small_numbers m ≡ absent_parts → CdlStands m false false no_cdl
cdl-start m q = record { sop_is = refl; sat_is = refl; held = cdl-absent m q }

module _ (s : List ℕ) (at i : ℕ) (m : Room) (sop sat : Bool) (v : HeldAt cdl_holder no_cdl s at i (CdlStands m sop sat)) where
  -- the end tag
  pub content-end : (j : ℕ) → Behind s i (Ok Items.EndTag) j → (r : Scan) → Reads 1 (end_tag (bytes "ASC_CDL") 0).run no_value s j r
      → ReadsTo (held cdl_holder no_cdl).run s at r (CdlNumbers m) (Unit {0})
  content-end j l r w =
      held-end cdl_holder no_cdl s at i (CdlStands m sop sat) v (CdlNumbers m) (Unit {0}) j r l (λ st z. (w, went-both r (CdlNumbers m st) (Unit {0}) z.held tt))

-- ---- the node

abbrev opens : Parser Tag
opens = (start_tag cdl_rules).run

abbrev rest_of : Tag → Parser Element
rest_of x = bind_p (cdl_content x).run (λ st. ret_p (cdl_node x.attributes st))

module _ (s : List ℕ) (at base : ℕ) (R : Element → Type 0) where
  -- the start tag is at fault
  pub cdl-failed : (m : Room) (x : Stop) → TagRead Tags.Cdl s at (Err x) → ReadsTo asc_cdl.run s at (Err x) R (SameCleared base m m)
  unfolding asc_cdl rules_of
  cdl-failed m x v =
      to-failed opens s at R (SameCleared base m m) rest_of no_tag (Err x) tt (cdl_node [] no_cdl) refl (tag-failed cdl_rules Tags.Cdl refl s at no_tag x v)

  -- behind it the content is read, if there is any
  module _ (tag : StartTag) (m₀ m₁ m : Room) (r : Scan) (g : (st : CdlState) → CdlNumbers m st → R (cdl_node (attributes_of s tag.attributes) st))
      (f : SameCleared base m₀ m₁) (t : TagRead Tags.Cdl s at (Ok tag)) where
    abbrev Read : Scan → Type 0
    Read x = ReadsTo asc_cdl.run s at x R (SameCleared base m₀ m₁)

    by_end : (end : TagEnd) → tag.end ≡ end → Followed s end m r → Read r
    unfolding asc_cdl rules_of
    by_end (Ends.Open q) e w =
        to-then opens s at R (SameCleared base m₀ m₁) rest_of (λ i. tag_with s tag false) q r (tag_open cdl_rules Tags.Cdl refl s at tag t q e)
        (to_map (held cdl_holder no_cdl).run s q R (SameCleared base m₀ m₁) (λ st. cdl_node (attributes_of s tag.attributes) st) r (CdlNumbers m) g
        (to_part (held cdl_holder no_cdl).run s q r (CdlNumbers m) (Unit {0}) (SameCleared base m₀ m₁) (λ u. f) w))
    by_end (Ends.Empty q) e w =
        let o : Reads 1 opens (λ i. tag_with s tag true) s at (Ok q) = tag-empty cdl_rules Tags.Cdl refl s at tag t q e in
        subst Read (sym w.0)
        (record {
          value = cdl_node (attributes_of s tag.attributes) no_cdl;
          reads = record { out = ap (λ (x : Out Tag). then_out x rest_of) o.out; inside = o.inside };
          left = g no_cdl w.1;
        })

    pub cdl-read : Followed s tag.end m r → Read r
    cdl-read w = by_end tag.end refl w

-- the node that is finished
module _ (s : List ℕ) (base : ℕ) (m₀ m₁ m : Room) (a : Attributes) (e : ℕ) (style : CdlStyle) (z : style ≡ cdl_style (text_of (bytes "style") (attributes_of s a)))
    (h : Laid base (small_numbers m) m₀ m₁) (st : CdlState) (x : CdlNumbers m st) where
  ten : length (small_numbers m) ≡ numbers_of (Cdl style)
  unfolding numbers_of
  ten = ap length x.numbers ∙ length-append (sop_numbers st) (sat_numbers st) ∙ omega (arith, x.nine, x.one)

  pub cdl-is : NodeIs base m₀ m₁ (record { end = e; node = finished_node s a (Cdl style) }) (cdl_node (attributes_of s a) st)
  cdl-is = let n = x.numbers in rw (← z, ← n) (finished-is s base m₀ m₁ a e (Cdl style) (small_numbers m) ten h)
