-- ASC_CDL in front of what follows it. Assumes nothing.
use Rattle.process_list.specs.declared.CdlStyle.{CdlStyle}
use Rattle.process_list.specs.declared.CdlStyle.TheVariants.{Fwd, FwdNoClamp}
use Rattle.process_list.specs.List.{Element}
use mathlib.Core.Path.{◌≡◌, refl, ap, ◌∙◌}
use mathlib.Core.Bool.{true}
use mathlib.Core.List.{List, [], ◌∷◌, ◌++◌}
use mathlib.Core.Option.{none, some}
use Prim.Native.Nat.{ℕ}
use Rattle.decimal.specs.declared.Decimal.{Decimal}
use Rattle.process_list.specs.declared.Depth.{Depth}
use Rattle.process_list.specs.declared.Kind.TheVariants.{Cdl}
use Rattle.grammar.specs.Parse.{Out, done, then_out, ret_p}
use Rattle.xml.specs.Bytes.{bytes, same, is_letter, is_digit, is_name_byte}
use Rattle.xml.specs.Xml.{Attribute, text_of, Tag}
use Rattle.xml.specs.Elements.{held}
use Rattle.ids.specs.Ids.{id_allowed}
use Rattle.clf.specs.Numbers.{any_number, not_below_zero, must_be_one}
use Rattle.clf.specs.Nodes.{cdl_style, element_with, not_empty_rules, sop_holder, sop_node, sat_holder, sat_node, CdlState, no_cdl, cdl_holder, cdl_texts, cdl_node, cdl_rules, cdl_content, asc_cdl}
use Rattle.claims.proofs.Numbers.{Each, Kept}
use Rattle.valid.specs.Valid.{every}
use Rattle.written_form.specs.Written.{cdl_style_text}
use Rattle.written_form.proofs.Tail.{value_text, sop_text, sat_text, depths_text, node_id_text}
use Rattle.reads_back.proofs.Texts.{is_name}
use Rattle.reads_back.proofs.Tags.{quoted, greater-name, tag-from, tag-ends}
use Rattle.reads_back.proofs.Held.{held_from, held-from, held-line, held-child, held-end}
use Rattle.reads_back.proofs.Values.{value-child}
use Rattle.reads_back.proofs.Depths.{with_depths, id_of, id-said-first, last_text, node-is, NodeRules, LastName, style-last, last-said, last-tag}

sop-name : is_name (bytes "SOPNode") ≡ true
unfolding is_name is_name_byte is_letter is_digit every
sop-name = refl

sat-name : is_name (bytes "SatNode") ≡ true
unfolding is_name is_name_byte is_letter is_digit every
sat-name = refl

pub cdl-name : is_name (bytes "ASC_CDL") ≡ true
unfolding is_name is_name_byte is_letter is_digit every
cdl-name = refl

abbrev three : Decimal → Decimal → Decimal → List Decimal
three x y z = x ∷ y ∷ z ∷ []

module _ (s1 s2 s3 o1 o2 o3 p1 p2 p3 : Decimal) where
  -- ---- SOPNode: Slope, Offset, Power

  abbrev slopes : List Decimal
  slopes = three s1 s2 s3

  abbrev six : List Decimal
  six = s1 ∷ s2 ∷ s3 ∷ o1 ∷ o2 ∷ o3 ∷ []

  abbrev nine : List Decimal
  nine = s1 ∷ s2 ∷ s3 ∷ o1 ∷ o2 ∷ o3 ∷ p1 ∷ p2 ∷ p3 ∷ []

  slope-reads : (t : List ℕ) → Each (Kept not_below_zero) slopes → held_from sop_holder [] (value_text (bytes "Slope") slopes t) ≡ held_from sop_holder slopes t
  unfolding is_name is_name_byte is_letter is_digit every same
  slope-reads t k = value-child sop_holder [] slopes (bytes "Slope") 3 not_below_zero slopes t refl k refl refl
      (λ s r e. ap (λ (o : Out (List Decimal)). then_out o (λ m. ret_p m)) e)

  offset-reads : (t : List ℕ) → Each (Kept any_number) (three o1 o2 o3) → held_from sop_holder slopes (value_text (bytes "Offset") (three o1 o2 o3) t) ≡ held_from sop_holder six t
  unfolding is_name is_name_byte is_letter is_digit every same
  offset-reads t k = value-child sop_holder slopes six (bytes "Offset") 3 any_number (three o1 o2 o3) t refl k refl refl
      (λ s r e. ap (λ (o : Out (List Decimal)). then_out o (λ m. ret_p (slopes ++ m))) e)

  power-reads : (t : List ℕ) → Each (Kept must_be_one) (three p1 p2 p3) → held_from sop_holder six (value_text (bytes "Power") (three p1 p2 p3) t) ≡ held_from sop_holder nine t
  unfolding is_name is_name_byte is_letter is_digit every same
  power-reads t k = value-child sop_holder six nine (bytes "Power") 3 must_be_one (three p1 p2 p3) t refl k refl refl
      (λ s r e. ap (λ (o : Out (List Decimal)). then_out o (λ m. ret_p (six ++ m))) e)

  sop-reads : (t : List ℕ) → Each (Kept not_below_zero) slopes → Each (Kept any_number) (three o1 o2 o3) → Each (Kept must_be_one) (three p1 p2 p3)
      → sop_node.run (bytes ">\n" ++ value_text (bytes "Slope") slopes (value_text (bytes "Offset") (three o1 o2 o3) (value_text (bytes "Power") (three p1 p2 p3) (bytes "</SOPNode>" ++ t)))) ≡ done nine
      t
  unfolding sop_node
  sop-reads t ks ko kp =
      let z : List ℕ = bytes "</SOPNode>" ++ t in
      let c : List ℕ = value_text (bytes "Power") (three p1 p2 p3) z in
      let b : List ℕ = value_text (bytes "Offset") (three o1 o2 o3) c in
      let a : List ℕ = value_text (bytes "Slope") slopes b in
      ap (λ (o : Out Tag). then_out o (λ tag. (held sop_holder []).run)) (tag-from not_empty_rules (62 ∷ 10 ∷ a) ∙ tag-ends not_empty_rules [] (10 ∷ a) refl)
      ∙ held-from sop_holder [] (10 ∷ a)
      ∙ held-line sop_holder [] a
      ∙ slope-reads b ks
      ∙ offset-reads c ko
      ∙ power-reads z kp
      ∙ held-end sop_holder nine t sop-name refl

-- ---- SatNode: Saturation

module _ (v : Decimal) where
  saturation-reads : (t : List ℕ) → Kept not_below_zero v → held_from sat_holder [] (value_text (bytes "Saturation") (v ∷ []) t) ≡ held_from sat_holder (v ∷ []) t
  unfolding is_name is_name_byte is_letter is_digit every same
  saturation-reads t k = value-child sat_holder [] (v ∷ []) (bytes "Saturation") 1 not_below_zero (v ∷ []) t refl (k, tt) refl refl
      (λ s r e. ap (λ (o : Out (List Decimal)). then_out o (λ m. ret_p m)) e)

  sat-reads : (t : List ℕ) → Kept not_below_zero v → sat_node.run (bytes ">\n" ++ value_text (bytes "Saturation") (v ∷ []) (bytes "</SatNode>" ++ t)) ≡ done (v ∷ []) t
  unfolding sat_node
  sat-reads t k =
      let z : List ℕ = bytes "</SatNode>" ++ t in
      let a : List ℕ = value_text (bytes "Saturation") (v ∷ []) z in
      ap (λ (o : Out Tag). then_out o (λ tag. (held sat_holder []).run)) (tag-from not_empty_rules (62 ∷ 10 ∷ a) ∙ tag-ends not_empty_rules [] (10 ∷ a) refl)
      ∙ held-from sat_holder [] (10 ∷ a)
      ∙ held-line sat_holder [] a
      ∙ saturation-reads z k
      ∙ held-end sat_holder (v ∷ []) t sat-name refl

-- ---- ASC_CDL

abbrev with_sop : List Decimal → CdlState
with_sop l = record { sop = some l; sat = none }

abbrev with_both : List Decimal → List Decimal → CdlState
with_both l m = record { sop = some l; sat = some m }

sop-fine : cdl_holder.fault no_cdl (bytes "SOPNode") ≡ 0
unfolding same
sop-fine = refl

sop-body : (s : List ℕ) (l : List Decimal) (r : List ℕ) → sop_node.run s ≡ done l r → (cdl_holder.body no_cdl (bytes "SOPNode")).run s ≡ done (with_sop l) r
unfolding same
sop-body s l r e = ap (λ (o : Out (List Decimal)). then_out o (λ l. ret_p (with_sop l))) e

sat-fine : (l : List Decimal) → cdl_holder.fault (with_sop l) (bytes "SatNode") ≡ 0
unfolding same
sat-fine l = refl

sat-body : (l : List Decimal) (s : List ℕ) (m : List Decimal) (r : List ℕ) → sat_node.run s ≡ done m r → (cdl_holder.body (with_sop l) (bytes "SatNode")).run s ≡ done (with_both l m) r
unfolding same
sat-body l s m r e = ap (λ (o : Out (List Decimal)). then_out o (λ m. ret_p (with_both l m))) e

-- the style of an ASC_CDL
abbrev fwd_text : CdlStyle → List ℕ
fwd_text Fwd = bytes "Fwd"
fwd_text FwdNoClamp = bytes "FwdNoClamp"

style-text : (style : CdlStyle) (t : List ℕ) → cdl_style_text style ++ t ≡ last_text (bytes "style") (fwd_text style) t
style-text Fwd t = refl
style-text FwdNoClamp t = refl

style-quoted : (style : CdlStyle) → quoted (fwd_text style) ≡ true
unfolding every
style-quoted Fwd = refl
style-quoted FwdNoClamp = refl

style-right : (style : CdlStyle) → cdl_texts (bytes "style") (fwd_text style) ≡ 0
unfolding same
style-right Fwd = refl
style-right FwdNoClamp = refl

style-of : (style : CdlStyle) → cdl_style (fwd_text style) ≡ style
unfolding same
style-of Fwd = refl
style-of FwdNoClamp = refl

-- its attribute stands last
styled : LastName cdl_rules (bytes "style")
styled = style-last cdl_rules refl

abbrev cdl-rules : NodeRules cdl_rules
cdl-rules = record { rest = cdl_texts; texts = refl; opened = refl; in-free = refl; out-free = refl; id-free = refl }

-- its ten numbers, each kept to its rule
pub record Ten (s1 s2 s3 o1 o2 o3 p1 p2 p3 v : Decimal) : Type 0 where
  pub slopes : Each (Kept not_below_zero) (s1 ∷ s2 ∷ s3 ∷ [])
  pub offsets : Each (Kept any_number) (o1 ∷ o2 ∷ o3 ∷ [])
  pub powers : Each (Kept must_be_one) (p1 ∷ p2 ∷ p3 ∷ [])
  pub saturation : Kept not_below_zero v

module _ (s1 s2 s3 o1 o2 o3 p1 p2 p3 v : Decimal) (k : Ten s1 s2 s3 o1 o2 o3 p1 p2 p3 v) where
  abbrev ten : List Decimal
  ten = s1 ∷ s2 ∷ s3 ∷ o1 ∷ o2 ∷ o3 ∷ p1 ∷ p2 ∷ p3 ∷ v ∷ []

  abbrev first-nine : List Decimal
  first-nine = s1 ∷ s2 ∷ s3 ∷ o1 ∷ o2 ∷ o3 ∷ p1 ∷ p2 ∷ p3 ∷ []

  content-reads : (t : List ℕ) → (held cdl_holder no_cdl).run (10 ∷ sop_text ten (sat_text ten (bytes "</ASC_CDL>" ++ t))) ≡ done (with_both first-nine (v ∷ [])) t
  unfolding sop_text sat_text
  content-reads t =
      let z : List ℕ = bytes "</ASC_CDL>" ++ t in
      let b : List ℕ = 10 ∷ value_text (bytes "Saturation") (v ∷ []) (bytes "</SatNode>" ++ 10 ∷ z) in
      let m : List ℕ = bytes "<SatNode" ++ 62 ∷ b in
      let a : List ℕ = 10 ∷ value_text (bytes "Slope") (three s1 s2 s3) (value_text (bytes "Offset") (three o1 o2 o3) (value_text (bytes "Power") (three p1 p2 p3) (bytes "</SOPNode>" ++ 10 ∷ m))) in
      held-from cdl_holder no_cdl (10 ∷ (bytes "<SOPNode" ++ 62 ∷ a))
      ∙ held-line cdl_holder no_cdl (bytes "<SOPNode" ++ 62 ∷ a)
      ∙ held-child cdl_holder no_cdl (bytes "SOPNode") 62 a (with_sop first-nine) (10 ∷ m) sop-name greater-name sop-fine
      (sop-body (62 ∷ a) first-nine (10 ∷ m) (sop-reads s1 s2 s3 o1 o2 o3 p1 p2 p3 (10 ∷ m) k.slopes k.offsets k.powers))
      ∙ held-line cdl_holder (with_sop first-nine) m
      ∙ held-child cdl_holder (with_sop first-nine) (bytes "SatNode") 62 b (with_both first-nine (v ∷ [])) (10 ∷ z) sat-name greater-name (sat-fine first-nine)
      (sat-body first-nine (62 ∷ b) (v ∷ []) (10 ∷ z) (sat-reads v (10 ∷ z) k.saturation))
      ∙ held-line cdl_holder (with_both first-nine (v ∷ [])) z
      ∙ held-end cdl_holder (with_both first-nine (v ∷ [])) t cdl-name refl

  module _ (i o : Depth) (id : List ℕ) (h : id_allowed id ≡ true) where
    -- the attributes of a written ASC_CDL, behind the depths
    abbrev behind_depths : CdlStyle → List Attribute
    behind_depths style = id_of id ++ record { name = bytes "style"; text = fwd_text style } ∷ []

    kind-said : (style : CdlStyle) → cdl_style (text_of (bytes "style") (with_depths i o (behind_depths style))) ≡ style
    kind-said style = ap cdl_style (last-said cdl_rules cdl-rules (bytes "style") styled i o id (fwd_text style)) ∙ style-of style

    pub cdl-reads : (style : CdlStyle) (t : List ℕ)
        → asc_cdl.run (depths_text i o (node_id_text id (cdl_style_text style ++ (bytes ">\n" ++ sop_text ten (sat_text ten (bytes "</ASC_CDL>" ++ t))))))
        ≡ done (record { kind = Cdl style; input = i; output = o; id = id; numbers = ten }) t
    unfolding asc_cdl
    cdl-reads style t =
        let r : List ℕ = 10 ∷ sop_text ten (sat_text ten (bytes "</ASC_CDL>" ++ t)) in
        let l = with_depths i o (behind_depths style) in
        ap (λ (s : List ℕ). asc_cdl.run (depths_text i o (node_id_text id s))) (style-text style (62 ∷ r))
        ∙ ap (λ (x : Out Tag). then_out x (λ tag u. then_out ((cdl_content tag).run u) (λ st. ret_p (cdl_node tag.attributes st))))
        (last-tag cdl_rules cdl-rules i o id h (bytes "style") styled (fwd_text style) r (style-quoted style) (style-right style))
        ∙ ap (λ (x : Out CdlState). then_out x (λ st. ret_p (cdl_node l st))) (content-reads t)
        ∙ ap (λ (u : CdlStyle). done (element_with l (Cdl u) ten) t) (kind-said style)
        ∙ ap (λ (x : Element). done x t) (node-is i o id (behind_depths style) (Cdl style) ten (id-said-first id (bytes "style") (fwd_text style) styled.id-not))
