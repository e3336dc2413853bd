-- Which numbers a reading answers, and where. Assumes nothing.
use mathlib.Core.Path.{◌≡◌, refl, sym, ap, ◌∙◌, subst}
use mathlib.Core.Bool.{Bool, true, false, cond, ◌&&◌}
use mathlib.Core.List.{List, [], ◌∷◌}
use mathlib.Core.Logic.{◌⊎◌, inl, inr}
use Prim.Native.Nat.{ℕ, zero, suc, ◌<◌}
use native.Mathlib.Omega.{arith}
use lib.Dec.{eqb, ltb}
use lib.ListN.{length}
use borrow.Author.Tests.{ltb-true}
use Rattle.process_list.specs.declared.Unfit.TheVariants.{NoNode, TooManyNodes, DepthDiffers, IdSeen, TooManyNumbers}
use Rattle.std.proofs.Common.{Ok, Err}
use Rattle.process_list.specs.List.{Verdict, Element, verdict}
use Rattle.grammar.specs.Parse.{Out, done, fault, cut, then_out, judged_to as judgement, judge_out, turn_out, loop_p}
use Rattle.grammar.specs.Laws.{nope, loop-step}
use Rattle.grammar.specs.Grammar.{bad, added}
use Rattle.xml.specs.Bytes.{bytes, same}
use Rattle.xml.specs.Xml.{is_named, Tag, stray_end}
use Rattle.xml.specs.Elements.{Part, between, info}
use Rattle.clf.specs.Nodes.{NodeName, node_name, node_fault, node_body}
use Rattle.clf.specs.List.{declaration, node, description, input_descriptor, output_descriptor, info_child, Flags, no_flags, child_fault, child_body, list_item, next_flags, list_rules}
use Rattle.clf.specs.List.{root_fault, to_root, prologue, head, Document, list_content, document, onward, tail_part, tail}
use Rattle.clf.specs.Reading.{Reading, accepted, faulty, most_bytes, reading_number, nodes_among, place_in, reading_by, list_reading, tail_reading, text_reading, read_text, read}
use Rattle.claims.specs.Refusals.{is_text_fault, is_list_fault, Answered, whole, short, text, list}
use Rattle.look.specs.Replacing.{start, element}
use Rattle.claims.proofs.Faults.{fair-anywhere, fair-zero, fair-cond, blames-ret, blames-bad, blames-cond, blames-strict, blames-blame, blames-kept, blames-word, blames-seq, blames-loop}
use Rattle.claims.proofs.Blamed.{Textual, Well, Right, other, right, three, five, RightRules, start_tag-well, end_tag-well, stray_end-well, between-well, text_element-well, info-well}
use Rattle.claims.proofs.BlamedNodes.{eight, name-right, node-well}
use Rattle.claims.proofs.Element.{start-faults}
use Rattle.claims.specs.Theorems.{AnswersNumbered}

-- ---- the document

child-right : (st : Flags) (w : List ℕ) → Right (child_fault st w)
unfolding child_fault
child-right st w =
    fair-cond (same w (bytes "Description")) fair-zero
    (fair-cond (same w (bytes "InputDescriptor")) (fair-cond st.input five fair-zero)
    (fair-cond (same w (bytes "OutputDescriptor")) (fair-cond st.output five fair-zero)
    (fair-cond (same w (bytes "Info")) (fair-cond st.info five fair-zero) (name-right (node_name w)))))

child-well : (w : List ℕ) → Well (child_body w)
unfolding child_body
child-well w =
    blames-cond (same w (bytes "Description")) (blames-seq (text_element-well w) (λ t. blames-ret description))
    (blames-cond (same w (bytes "InputDescriptor")) (blames-seq (text_element-well w) (λ t. blames-ret input_descriptor))
    (blames-cond (same w (bytes "OutputDescriptor")) (blames-seq (text_element-well w) (λ t. blames-ret output_descriptor))
    (blames-cond (same w (bytes "Info")) (blames-seq info-well (λ t. blames-ret info_child)) (blames-seq (node-well (node_name w)) (λ n. blames-ret (node n))))))

item-well : (st : Flags) → Well (list_item st)
unfolding list_item
item-well st = between-well (child_fault st) (end_tag-well (bytes "ProcessList") 0 fair-zero) (child-right st) child-well

list-rules : RightRules list_rules
list-rules = record {
  names = λ w. fair-zero;
  texts = λ w t.
      fair-cond (same w (bytes "id")) (fair-cond (eqb (length t) 0) eight fair-zero)
      (fair-cond (same w (bytes "compCLFversion")) (fair-cond (same t (bytes "3.0")) fair-zero (right 6 refl)) fair-zero);
  opened = λ l. fair-cond (is_named (bytes "id") l && is_named (bytes "compCLFversion") l) fair-zero eight;
  emptied = λ l. fair-cond (is_named (bytes "id") l && is_named (bytes "compCLFversion") l) fair-zero eight;
}

prologue-well : Well prologue
unfolding prologue
prologue-well =
    blames-loop (λ st. blames-seq (between-well root_fault stray_end-well (λ w. fair-cond (same w (bytes "ProcessList")) fair-zero five) (λ w. blames-ret w)) (λ p. blames-ret (to_root p))) tt

head-well : Well head
unfolding head
head-well = blames-seq (blames-seq (blames-blame (blames-word declaration 3 (fair-anywhere three))) (λ u. prologue-well)) (λ u. start_tag-well list_rules list-rules)

content-well : (tag : Tag) → Well (list_content tag)
content-well tag =
    blames-cond tag.empty (blames-ret [])
    (blames-loop (λ v. blames-seq (blames-strict (blames-kept (item-well v.0))) (λ x. blames-ret (added v.1 x (next_flags v.0 x.0)))) (no_flags, []))

pub document-well : Well document
unfolding document
document-well = blames-seq (blames-kept head-well) (λ h. blames-seq (content-well h.0) (λ l. blames-ret (record { start = h.1; parts = l })))

-- ---- behind it

part-well : Well (between stray_end (λ w. 5) (λ w. bad {A = Unit {0}} 5))
part-well = between-well (λ w. 5) stray_end-well (λ w. five) (λ w. blames-bad 5 (other 5 refl))

abbrev tails : Unit {0} → List ℕ → Out (Unit {0})
tails = loop_p (λ (st : Unit {0}). tail_part)

tail-turn : (n : ℕ) → ((s : List ℕ) (k : ℕ) (r : List ℕ) → length s < n → tails tt s ≡ fault k r → Textual k r)
    → (b : ℕ) (s : List ℕ) (k : ℕ) (r : List ℕ) → length s < n
    → (o : Out (Part (Unit {0}))) → (between stray_end (λ w. 5) (λ w. bad {A = Unit {0}} 5)).run (b ∷ s) ≡ o → turn_out tails (onward o) (b ∷ s) ≡ fault k r → Textual k r
tail-turn n ih b s k r h (done p u) q z = by (ltb (length u) (length (b ∷ s))) refl z
  where
    by : (t : Bool) → ltb (length u) (length (b ∷ s)) ≡ t → cond t (tails tt u) cut ≡ fault k r → Textual k r
    by true g y = let l : length u < length (b ∷ s) = ltb-true (length u) (length (b ∷ s)) g in ih u k r (omega arith) y
    by false g y = nope cc
tail-turn n ih b s k r h (fault j u) q z = let y : j ≡ k = cc in let x : u ≡ r = cc in subst (λ (l : List ℕ). Textual k l) x (subst (λ (m : ℕ). Textual m u) y (part-well.number (b ∷ s) j u q))
tail-turn n ih b s k r h cut q z = nope cc

tail_all : (n : ℕ) (s : List ℕ) (k : ℕ) (r : List ℕ) → length s < n → tails tt s ≡ fault k r → Textual k r
tail_all zero s k r h e = absurd (omega arith)
tail_all (suc n) [] k r h e = let z = sym (loop-step (λ (st : Unit {0}). tail_part) tt []) ∙ e in nope cc
tail_all (suc n) (b ∷ s) k r h e =
    tail-turn n (tail_all n) b s k r (omega arith) ((between stray_end (λ w. 5) (λ w. bad {A = Unit {0}} 5)).run (b ∷ s)) refl
    (sym (loop-step (λ (st : Unit {0}). tail_part) tt (b ∷ s)) ∙ e)

pub tail-well : (s : List ℕ) (k : ℕ) (r : List ℕ) → tail s ≡ fault k r → Textual k r
unfolding tail
tail-well s k r e = tail_all (suc (length s)) s k r (omega arith) e

-- ---- reading

by-verdict : (n : ℕ) (l : List Element) (v : Verdict) → Answered n (reading_by l v)
by-verdict n l (Ok u) = whole l
by-verdict n l (Err NoNode) = list 12 0 refl
by-verdict n l (Err TooManyNodes) = list 11 33 refl
by-verdict n l (Err (DepthDiffers k)) = list 10 k refl
by-verdict n l (Err (IdSeen k)) = list 23 k refl
by-verdict n l (Err TooManyNumbers) = list 13 0 refl

by-list : (n room : ℕ) (l : List Element) → Answered n (list_reading room l)
unfolding list_reading
by-list n room l = by-verdict n l (verdict room l)

by-tail : (room : ℕ) (s : List ℕ) (d : Document) (u : List ℕ) (o : Out (Unit {0})) → tail u ≡ o → Answered (length s) (tail_reading room s d o)
by-tail room s d u (done a r) q = by-list (length s) room (nodes_among d.parts)
by-tail room s d u (fault k r) q = text k (place_in s r) (tail-well u k r q).known (omega arith)
by-tail room s d u cut q = short

by-document : (room : ℕ) (s : List ℕ) (o : Out Document) → document.run s ≡ o → Answered (length s) (text_reading room s o)
by-document room s (done d r) q = by-tail room s d r (tail r) refl
by-document room s (fault k r) q = text k (place_in s r) (document-well.number s k r q).known (omega arith)
by-document room s cut q = short

-- THE NUMBERS OF A READING: 1 is given at the length and nowhere else, and no other number than those of documents 01 and 02 is given
pub answered : AnswersNumbered
unfolding read_text
answered room s = by-document room s (document.run s) refl

-- the faults of an element alone: those of a text, and 20 at its first byte
pub element-well : (e : List ℕ) (k : ℕ) (r : List ℕ) → element.run e ≡ fault k r → Textual k r ⊎ (k ≡ 20)
unfolding element
element-well e k r q = go (start.run e) refl q
  where
    by : (n : NodeName) (u : List ℕ) (j : ℕ) → node_fault n ≡ j → then_out (judgement j n u e) (λ m. (node_body m).run) ≡ fault k r → Textual k r ⊎ (k ≡ 20)
    by n u zero f z = inl ((node-well n).number u k r z)
    by n u (suc j) f z = let y : suc j ≡ k = cc in let x : e ≡ r = cc in inl (subst (λ (l : List ℕ). Textual k l) x (subst (λ (m : ℕ). Textual m e) y ((name-right n).is j f e)))

    go : (o : Out NodeName) → start.run e ≡ o → then_out (judge_out node_fault o e) (λ m. (node_body m).run) ≡ fault k r → Textual k r ⊎ (k ≡ 20)
    go (done n u) f z = by n u (node_fault n) refl z
    go (fault j u) f z = inr (let y : j ≡ k = cc in sym y ∙ start-faults e j u f)
    go cut f z = nope cc

pub element-faults : (e : List ℕ) (k : ℕ) (r : List ℕ) → element.run e ≡ fault k r → (is_text_fault k ≡ true) ⊎ (k ≡ 20)
element-faults e k r q = go (element-well e k r q)
  where
    go : Textual k r ⊎ (k ≡ 20) → (is_text_fault k ≡ true) ⊎ (k ≡ 20)
    go (inl t) = inl t.known
    go (inr z) = inr z

-- ---- the number is 0 for an accepted file alone

by_number : (n : ℕ) (x : Reading) → Answered n x → reading_number x ≡ 0 → (l : List Element) × (x ≡ accepted l)
by_number n x (whole l) z = (l, refl)
by_number n x short z = absurd (omega arith)
by_number n x (text k p t i) z = let f : false ≡ true = sym (ap is_text_fault z) ∙ t in nope cc
by_number n x (list k p t) z = let f : false ≡ true = sym (ap is_list_fault z) ∙ t in nope cc

pub number-accepted : (room : ℕ) (s : List ℕ) → reading_number (read room s) ≡ 0 → (l : List Element) × (read room s ≡ accepted l)
unfolding read
number-accepted room s = go (ltb most_bytes (length s))
  where
    go : (b : Bool) → reading_number (cond b (faulty 4 0) (read_text room s)) ≡ 0 → (l : List Element) × (cond b (faulty 4 0) (read_text room s) ≡ accepted l)
    go true z = absurd (omega arith)
    go false z = by_number (length s) (read_text room s) (answered room s) z
