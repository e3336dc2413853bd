-- SOPNode and SatNode: their elements and their content, by their parts. Assumes nothing.
use mathlib.Core.Path.{◌≡◌, refl, sym, ap, ◌∙◌, subst}
use mathlib.Core.Bool.{Bool, true, false, cond}
use mathlib.Core.List.{List, [], ◌∷◌, ◌++◌}
use Prim.Native.Nat.{ℕ, suc, ◌+◌, ◌≤◌, ◌<◌}
use native.Mathlib.Omega.{arith}
use lib.Dec.{eqb, ltb}
use lib.ListN.{length, length-append, length-take, length-drop}
use borrow.Author.Tests.{ltb-true, ltb-false, ne_eqb, eqb-true}
use Rattle.decimal.specs.declared.Decimal.{Decimal}
use Rattle.grammar.specs.Parse.{Parser}
use Rattle.grammar.specs.Laws.{nope}
use Rattle.xml.specs.Bytes.{same, bytes}
use Rattle.xml.specs.Xml.{Tag, start_tag, end_tag}
use Rattle.xml.specs.Elements.{held}
use Rattle.xml.specs.Code.{Reads, no_value}
use Rattle.xml.specs.Code.{Scan}
use Rattle.std.specs.Prelude.{Ok, Err}
use Rattle.xml.specs.declared.Stop.{Stop}
use Rattle.xml.specs.declared.Stop.TheVariants.{Fault}
use Rattle.markup.specs.Next.{Behind}
use Rattle.markup.specs.declared.Item.TheVariants as Items
use Rattle.tags.specs.Code.{part_in}
use Rattle.tags.proofs.Words.{part_in_lem}
use Rattle.values.specs.Code.{NumbersRead}
use Rattle.clf.specs.Numbers.{value_element}
use Rattle.clf.specs.Nodes.{not_empty_rules}
use Rattle.node_parts.specs.Code.{NumbersIn}
use Rattle.node_parts.specs.Held.{Went, Goes, HeldAt, ReadsTo}
use Rattle.room.specs.Room.{Room, cleared_from}
use Rattle.values.proofs.Stored.{laid-none-yet, laid_then}
use Rattle.node_parts.proofs.Held.{end-lacks, child-refused, child-body, held-end}
use Rattle.node_parts.proofs.Reading.{no_tag, to_map, to-then, to-failed, to_part, numbers-to}
use Rattle.cdl_node.specs.declared.CdlPart.{CdlPart}
use Rattle.cdl_node.specs.declared.CdlPart.TheVariants.{Sop, Sat}
use Rattle.cdl_node.specs.Code.{name_of, width_of, top_of, base_of, part_fault_of, rules_in, inner_holder, inner_node, InnerStands}

-- ---- names

pub empty_name : (w : List ℕ) → eqb (length w) 0 ≡ same w []
unfolding same
empty_name [] = refl
empty_name (b ∷ w) = ne_eqb (suc (length w)) 0 (λ e. omega arith)

nameless : (w : List ℕ) → 0 < length w → same w [] ≡ true → ⊥
unfolding same
nameless [] h q = omega arith
nameless (b ∷ w) h q = nope cc

pub top-nine : (part : CdlPart) → top_of part ≤ 9
top-nine Sop = omega arith
top-nine Sat = omega arith

pub width_three : (part : CdlPart) → width_of part ≤ 3
width_three Sop = omega arith
width_three Sat = omega arith

pub base-nine : (part : CdlPart) → base_of part ≤ 9
base-nine Sop = omega arith
base-nine Sat = omega arith

-- an element that may stand after n numbers has room for its own
fits : (part : CdlPart) (n : ℕ) (w : List ℕ) → 0 < length w → part_fault_of part n w ≡ 0 → n + width_of part ≤ top_of part
fits Sat n w h q = go (ltb n 1) refl q
  where
    go : (b : Bool) → ltb n 1 ≡ b → ◌≡◌ {A = ℕ} (cond b (cond (same w (bytes "Saturation")) 0 5) 5) 0 → n + 1 ≤ 1
    go true e z = omega (arith, ltb-true n 1 e)
    go false e z = absurd (omega (arith, z))
fits Sop n w h q = go (eqb n 0) (eqb n 3) (eqb n 6) refl refl refl q
  where
    no : (b : Bool) → same w [] ≡ b → ◌≡◌ {A = ℕ} (cond b 0 5) 0 → n + 3 ≤ 9
    no true e z = absurd (nameless w h e)
    no false e z = absurd (omega (arith, z))

    go : (x y z : Bool) → eqb n 0 ≡ x → eqb n 3 ≡ y → eqb n 6 ≡ z → ◌≡◌ {A = ℕ} (cond (same w (cond x (bytes "Slope") (cond y (bytes "Offset") (cond z (bytes "Power") [])))) 0 5) 0 → n + 3 ≤ 9
    go true y z a b d q = omega (arith, eqb-true n 0 a)
    go false true z a b d q = omega (arith, eqb-true n 3 b)
    go false false true a b d q = omega (arith, eqb-true n 6 d)
    go false false false a b d q = no (same w []) refl q

-- ---- an element

module _ (part : CdlPart) (s : List ℕ) (at e : ℕ) (w : List ℕ) (n : w ≡ part_in s (at + 1) e) (l : at + 2 ≤ e) (i : e ≤ length s) (count k : ℕ)
    (q : k ≡ part_fault_of part count w) (m₀ m : Room) (xs : List Decimal) (v : InnerStands part m₀ m count xs) where
  named : 0 < length w
  named =
      let z : length w ≡ _ = ap length (n ∙ sym (part_in_lem s (at + 1) e i)) in
      omega (arith, simp (length-take, length-drop) at z)

  blame : part_fault_of part (length xs) w ≡ k
  blame = ap (λ (j : ℕ). part_fault_of part j w) (sym v.counted) ∙ sym q

  pub inner-refused : (R : List Decimal → Type 0) → (k ≡ 0 → ⊥) → Goes (inner_holder part) xs s at e (Err (Fault k at)) R (Unit {0})
  inner-refused R z = child-refused (inner_holder part) xs s at e w n l i R (Unit {0}) k blame z tt

  module _ (z : k ≡ 0) (width base : ℕ) (rule : Decimal → ℕ) (r : Scan) (m₁ : Room) (ew : width ≡ width_of part) (er : rule ≡ rules_in part count)
      (eb : base ≡ base_of part + count) (h : NumbersRead width (value_element w width rule).run s e base r m m₁) where
    abbrev element : Parser (List Decimal)
    element = (value_element w (width_of part) (rules_in part (length xs))).run

    -- where its numbers go
    abbrev next : ℕ
    next = base_of part + length xs

    abbrev Stands : List Decimal → Type 0
    Stands = InnerStands part m₀ m₁ (count + width_of part)

    more : (ys : List Decimal) → NumbersIn (width_of part) next m m₁ ys → Stands (xs ++ ys)
    more ys g = record {
      counted = sym (length-append xs ys ∙ omega (arith, v.counted, g.counted));
      few = rw length-append (omega (arith, g.counted, v.counted, fits part count w named (sym q ∙ z)));
      room = laid_then (base_of part) xs ys m₀ m m₁ v.room g.room;
    }

    read : NumbersRead (width_of part) element s e next r m m₁
    read =
        subst (λ (b : ℕ). NumbersRead (width_of part) element s e b r m m₁) (eb ∙ ap (λ (j : ℕ). base_of part + j) v.counted)
        (subst (λ (f : Decimal → ℕ). NumbersRead (width_of part) (value_element w (width_of part) f).run s e base r m m₁) (er ∙ ap (rules_in part) v.counted)
        (subst (λ (j : ℕ). NumbersRead j (value_element w j rule).run s e base r m m₁) ew h))

    pub inner-goes : Goes (inner_holder part) xs s at e r Stands (Unit {0})
    inner-goes =
        child-body (inner_holder part) xs s at e w n l i Stands (Unit {0}) r (blame ∙ z)
        (to_map element s e Stands (Unit {0}) (λ ys. xs ++ ys) r (NumbersIn (width_of part) next m m₁) more
        (to_part element s e r (NumbersIn (width_of part) next m m₁) (m₁ ≡ cleared_from next m) (Unit {0}) (λ y. tt)
        (numbers-to element s e (width_of part) next m m₁ r read)))

-- ---- the content

pub inner_start : (part : CdlPart) (m : Room) → InnerStands part m m 0 []
inner_start part m = record { counted = refl; few = omega arith; room = laid-none-yet (base_of part) m }

pub inner-few : (part : CdlPart) (m₀ m : Room) (count : ℕ) (l : List Decimal) → InnerStands part m₀ m count l → count ≤ 9
inner-few part m₀ m count l v = omega (arith, v.counted, v.few, top-nine part)

module _ (part : CdlPart) (s : List ℕ) (at i : ℕ) (m₀ m : Room) (count : ℕ) (v : HeldAt (inner_holder part) [] s at i (InnerStands part m₀ m count))
    (j : ℕ) (l : Behind s i (Ok Items.EndTag) j) (missing : ℕ) (q : missing ≡ cond (ltb count (top_of part)) 5 0) where
  abbrev All : List Decimal → Type 0
  All = NumbersIn (top_of part) (base_of part) m₀ m

  whole : (r : Scan) (xs : List Decimal) → InnerStands part m₀ m count xs → Reads 1 (end_tag (name_of part) missing).run no_value s j r → Went r (All xs) (Unit {0})
  whole (Ok e) xs z w = go (ltb count (top_of part)) refl
    where
      go : (b : Bool) → ltb count (top_of part) ≡ b → All xs
      go true x =
          let y : missing ≡ 5 = q ∙ ap (λ (b : Bool). cond b 5 0) x in
          absurd (end-lacks (name_of part) missing 1 s j e (λ n. omega arith) w)
      go false x = record { counted = omega (arith, ltb-false count (top_of part) x, z.counted, z.few); room = z.room }
  whole (Err x) xs z w = tt

  lacking : (xs : List Decimal) → InnerStands part m₀ m count xs → cond (ltb (length xs) (top_of part)) 5 0 ≡ missing
  lacking xs z = ap (λ (n : ℕ). cond (ltb n (top_of part)) 5 0) (sym z.counted) ∙ sym q

  -- the end tag
  pub inner_ended : (r : Scan) → Reads 1 (end_tag (name_of part) missing).run no_value s j r → ReadsTo (held (inner_holder part) []).run s at r All (Unit {0})
  inner_ended r w =
      held-end (inner_holder part) [] s at i (InnerStands part m₀ m count) v All (Unit {0}) j r l
      (λ xs z. (subst (λ (n : ℕ). Reads 1 (end_tag (name_of part) n).run no_value s j r) (sym (lacking xs z)) w, whole r xs z w))

-- ---- the element itself

module _ (part : CdlPart) (s : List ℕ) (at : ℕ) (R : List Decimal → Type 0) where
  abbrev opens : Parser Tag
  opens = (start_tag not_empty_rules).run

  pub inner-failed : (x : Stop) → Reads 1 opens no_tag s at (Err x) → ReadsTo (inner_node part).run s at (Err x) R (Unit {0})
  inner-failed x v = to-failed opens s at R (Unit {0}) (λ t. (held (inner_holder part) []).run) no_tag (Err x) tt [] tt v

  pub inner-then : (tag : Tag) (q : ℕ) (r : Scan) → Reads 1 opens (λ e. tag) s at (Ok q) → ReadsTo (held (inner_holder part) []).run s q r R (Unit {0})
      → ReadsTo (inner_node part).run s at r R (Unit {0})
  inner-then tag q r v w = to-then opens s at R (Unit {0}) (λ t. (held (inner_holder part) []).run) (λ e. tag) q r v w
