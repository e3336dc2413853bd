-- A text without fault stands whole: its nodes and their places are those that `Whole` names. Assumes nothing.
use mathlib.Core.Path.{◌≡◌, refl, sym, ap, ◌∙◌}
use mathlib.Core.Bool.{Bool, true, false, cond, ◌&&◌}
use mathlib.Core.List.{List, [], ◌∷◌, ◌++◌, append-nil}
use Prim.Native.Nat.{ℕ, zero, suc, ◌+◌, ◌-◌, ◌≤◌, ◌<◌, min}
use native.Mathlib.Omega.{arith}
use lib.Dec.{ltb, leb}
use lib.ListN.{length, length-take, length-append}
use borrow.Author.Tests.{ltb-true, lt-ltb, le-leb}
use Rattle.process_list.specs.List.{Element, most_nodes}
use Rattle.grammar.specs.Parse.{Out, done, fault, cut, Parser, Turn, again, last, before, then_out, bind_p, ret_p, kept_out, turn_out, state_out, loop_p, loop_state}
use Rattle.grammar.specs.Laws.{nope, loop-step, state-step}
use Rattle.grammar.specs.Grammar.{G, ret, added, one_item, items, whole_items}
use Rattle.grammar.specs.Splice.{bind_inv, turn_item, flat}
use Rattle.xml.specs.Xml.{Tag}
use Rattle.xml.specs.Elements.{Part, misc, child, close}
use Rattle.clf.specs.List.{Child, node, description, input_descriptor, output_descriptor, info_child, Flags, no_flags, list_item, next_flags, head, list_content, Document, document}
use Rattle.clf.specs.Places.{span_of, span_document, node_span}
use Rattle.clf.specs.Reading.{nodes_among, with_part, place_in}
use Rattle.clf.specs.Whole.{WholeText, nothing_whole, whole_behind, whole_text, whole_nodes, behind_head, content_place, whole_place}

-- ---- the last turn of a loop that is done

module _ {S B : Type 0} (f : S → Parser (Turn S B)) where
  -- it starts in the state before it, at some place u
  abbrev LastTurn : S → List ℕ → B → List ℕ → Type 0
  LastTurn st s b r = (u : List ℕ) × (f (loop_state f st s) u ≡ done (last b) r)

  turn-done : (n : ℕ) (st : S) (s : List ℕ) (b : B) (r : List ℕ)
      → ((st' : S) (q : List ℕ) → length q < n → loop_p f st' q ≡ done b r → LastTurn st' q b r)
      → length s ≤ n → (o : Out (Turn S B)) → f st s ≡ o → turn_out (loop_p f) o s ≡ done b r → (u : List ℕ) × (f (state_out (loop_state f) st o s) u ≡ done (last b) r)
  turn-done n st s b r ih h (done (last a) q) e z = let x : a ≡ b = cc in let y : q ≡ r = cc in (s, e ∙ cc)
  turn-done n st s b r ih h (done (again st') q) e z = by (ltb (length q) (length s)) refl z
    where
      by : (v : Bool) → ltb (length q) (length s) ≡ v → cond v (loop_p f st' q) cut ≡ done b r → (u : List ℕ) × (f (cond v (loop_state f st' q) st) u ≡ done (last b) r)
      by true w x = let l : length q < length s = ltb-true (length q) (length s) w in ih st' q (omega arith) x
      by false w x = nope cc
  turn-done n st s b r ih h (fault k q) e z = nope cc
  turn-done n st s b r ih h cut e z = nope cc

  last-go : (n : ℕ) (st : S) (s : List ℕ) (b : B) (r : List ℕ) → length s < n → loop_p f st s ≡ done b r → LastTurn st s b r
  last-go zero st s b r h q = absurd (omega arith)
  last-go (suc n) st s b r h q =
      let t = turn-done n st s b r (λ v u l. last-go n v u b r l) (omega arith) (f st s) refl (sym (loop-step f st s) ∙ q) in
      (t.0, ap (λ (v : S). f v t.0) (state-step f st s) ∙ t.1)

  pub last_turn : (st : S) (s : List ℕ) (b : B) (r : List ℕ) → loop_p f st s ≡ done b r → LastTurn st s b r
  last_turn st s b r q = last-go (suc (length s)) st s b r (omega arith) q

-- ---- items: all that stand whole, and one more after which none follows

module _ {S A : Type 0} (item : S → G A) (next : S → A → Turn S (Unit {0})) where
  pub record EndsWith (st : S) (s : List ℕ) (l : List (A × List ℕ)) : Type 0 where
    pub end : A × List ℕ
    pub ends : next (whole_items item next st s).0 end.0 ≡ last tt
    pub all : l ≡ (whole_items item next st s).1 ++ end ∷ []

  pub items-whole : (st : S) (s : List ℕ) (l : List (A × List ℕ)) (r : List ℕ) → (items item next st).run s ≡ done l r → EndsWith st s l
  items-whole st s l r q =
      let w : S × List (A × List ℕ) = whole_items item next st s in
      let t = last_turn (λ v. (one_item item next v).run) (st, []) s l r q in
      let b = bind_inv (turn_item item next w.0) (λ x. ret_p (added w.1 x (next w.0 x.0))) t.0 (last l) r t.1 in
      by b.0 (next w.0 b.0.0) refl (ap value b.3)
    where
      value : Out (Turn (S × List (A × List ℕ)) (List (A × List ℕ))) → Turn (S × List (A × List ℕ)) (List (A × List ℕ))
      value (done x u) = x
      value (fault k u) = last l
      value cut = last l

      by : (x : A × List ℕ) (n : Turn S (Unit {0})) → next (whole_items item next st s).0 x.0 ≡ n → added (whole_items item next st s).1 x n ≡ last l → EndsWith st s l
      by x (again v) e z = nope cc
      by x (last u) e z = record { end = x; ends = e; all = sym (ends-in z) }
        where
          ends-in : {m : List (A × List ℕ)} → ◌≡◌ {A = Turn (S × List (A × List ℕ)) (List (A × List ℕ))} (last m) (last l) → m ≡ l
          ends-in z = cc

-- ---- ProcessList's items

ends_close : (st : Flags) (p : Part Child) → next_flags st p ≡ last tt → p ≡ close
ends_close st misc q = nope cc
ends_close st (child (node n)) q = nope cc
ends_close st (child description) q = nope cc
ends_close st (child input_descriptor) q = nope cc
ends_close st (child output_descriptor) q = nope cc
ends_close st (child info_child) q = nope cc
ends_close st close q = refl

part-more : (p : Part Child) (l m : List Element) → with_part p (l ++ m) ≡ with_part p l ++ m
part-more misc l m = refl
part-more (child (node n)) l m = refl
part-more (child description) l m = refl
part-more (child input_descriptor) l m = refl
part-more (child output_descriptor) l m = refl
part-more (child info_child) l m = refl
part-more close l m = refl

-- the nodes of items and more items
pub nodes-more : (l m : List (Part Child × List ℕ)) → nodes_among (l ++ m) ≡ nodes_among l ++ nodes_among m
unfolding nodes_among
nodes-more [] m = refl
nodes-more (x ∷ l) m = ap (with_part x.0) (nodes-more l m) ∙ part-more x.0 (nodes_among l) (nodes_among m)

-- ---- places

-- more items behind change no place
pub span-old : (l m : List (Part Child × List ℕ)) (k at : ℕ) → k < length (nodes_among l) → span_of (l ++ m) k at ≡ span_of l k at
unfolding nodes_among span_of
span-old [] m k at h = absurd (omega arith)
span-old ((misc, b) ∷ l) m k at h = span-old l m k (at + length b) h
span-old ((child (node n), b) ∷ l) m zero at h = refl
span-old ((child (node n), b) ∷ l) m (suc k) at h = span-old l m k (at + length b) (omega arith)
span-old ((child description, b) ∷ l) m k at h = span-old l m k (at + length b) h
span-old ((child input_descriptor, b) ∷ l) m k at h = span-old l m k (at + length b) h
span-old ((child output_descriptor, b) ∷ l) m k at h = span-old l m k (at + length b) h
span-old ((child info_child, b) ∷ l) m k at h = span-old l m k (at + length b) h
span-old ((close, b) ∷ l) m k at h = span-old l m k (at + length b) h

-- the place of one node more
pub span-new : (l : List (Part Child × List ℕ)) (n : Element) (c : List ℕ) (at : ℕ) → (span_of (l ++ (child (node n), c) ∷ []) (length (nodes_among l)) at).0 ≡ at + length (flat l)
unfolding nodes_among span_of
span-new [] n c at = omega arith
span-new ((misc, b) ∷ l) n c at = span-new l n c (at + length b) ∙ omega (arith, length-append b (flat l))
span-new ((child (node v), b) ∷ l) n c at = span-new l n c (at + length b) ∙ omega (arith, length-append b (flat l))
span-new ((child description, b) ∷ l) n c at = span-new l n c (at + length b) ∙ omega (arith, length-append b (flat l))
span-new ((child input_descriptor, b) ∷ l) n c at = span-new l n c (at + length b) ∙ omega (arith, length-append b (flat l))
span-new ((child output_descriptor, b) ∷ l) n c at = span-new l n c (at + length b) ∙ omega (arith, length-append b (flat l))
span-new ((child info_child, b) ∷ l) n c at = span-new l n c (at + length b) ∙ omega (arith, length-append b (flat l))
span-new ((close, b) ∷ l) n c at = span-new l n c (at + length b) ∙ omega (arith, length-append b (flat l))

-- ---- a file without fault up to the root's end

pub record WholeDocument (s : List ℕ) (d : Document) : Type 0 where
  pub nodes : nodes_among d.parts ≡ whole_nodes s
  pub spans : (k : ℕ) → k < length (whole_nodes s) → span_of d.parts k (length d.start) ≡ span_of (whole_text s).1 k (content_place s)

-- by what was found behind the root's start tag
behind-tag : (s : List ℕ) (d : Document) (w : WholeText) (a : ℕ) → whole_text s ≡ w → content_place s ≡ a → length d.start ≡ a → (end : List (Part Child × List ℕ))
    → d.parts ≡ w.1 ++ end → nodes_among end ≡ [] → WholeDocument s d
behind-tag s d w a p q e end x z = record {
  nodes = ap nodes_among x ∙ nodes-more w.1 end ∙ ap (λ (l : List Element). nodes_among w.1 ++ l) z ∙ append-nil (nodes_among w.1) ∙ sym (ap (λ (v : WholeText). nodes_among v.1) p);
  spans = λ k h. ap (λ (l : List (Part Child × List ℕ)). span_of l k (length d.start)) x
      ∙ span-old w.1 end k (length d.start) (rw p at h)
      ∙ ap (span_of w.1 k) (e ∙ sym q) ∙ sym (ap (λ (v : WholeText). span_of v.1 k (content_place s)) p);
}

before-length : (s q : List ℕ) → length (before s q) ≡ place_in s q
before-length s q = simp length-take (omega arith)

none_in : (x : Part Child × List ℕ) → x.0 ≡ close → nodes_among (x ∷ []) ≡ []
unfolding nodes_among
none_in x q = ap (λ (p : Part Child). with_part p []) q

module _ (s : List ℕ) (d : Document) (r : List ℕ) where
  abbrev made : Tag × List ℕ → List (Part Child × List ℕ) → Document
  made h l = record { start = h.1; parts = l }

  by-tag : (tag : Tag) (q : List ℕ) → head.run s ≡ done tag q → (b : Bool) → tag.empty ≡ b
      → bind_p (cond b (ret []) (items list_item next_flags no_flags)).run (λ l. ret_p (made (tag, before s q) l)) q ≡ done d r → WholeDocument s d
  unfolding whole_text content_place nodes_among
  by-tag tag q e true t z =
      let x : made (tag, before s q) [] ≡ d = cc in
      let w : whole_text s ≡ nothing_whole = ap whole_behind e ∙ ap (λ (b : Bool). cond b nothing_whole (whole_items list_item next_flags no_flags q)) t in
      behind-tag s d nothing_whole (place_in s q) w (ap (behind_head s) e) (ap (λ (v : Document). length v.start) (sym x) ∙ before-length s q) []
      (ap (λ (v : Document). v.parts) (sym x)) refl
  by-tag tag q e false t z =
      let b = bind_inv (items list_item next_flags no_flags).run (λ l. ret_p (made (tag, before s q) l)) q d r z in
      let x : made (tag, before s q) b.0 ≡ d = cc in
      let w : whole_text s ≡ whole_items list_item next_flags no_flags q =
      ap whole_behind e ∙ ap (λ (b : Bool). cond b nothing_whole (whole_items list_item next_flags no_flags q)) t in
      let i : EndsWith list_item next_flags no_flags q b.0 = items-whole list_item next_flags no_flags q b.0 b.1 b.2 in
      behind-tag s d (whole_items list_item next_flags no_flags q) (place_in s q) w (ap (behind_head s) e) (ap (λ (v : Document). length v.start) (sym x) ∙ before-length s q)
      (i.end ∷ []) (ap (λ (v : Document). v.parts) (sym x) ∙ i.all) (none_in i.end (ends_close _ i.end.0 i.ends))

  -- its nodes are those that stand whole, and so are their places
  pub document-whole : document.run s ≡ done d r → WholeDocument s d
  unfolding document
  document-whole z = by (head.run s) refl z
    where
      by : (o : Out Tag) → head.run s ≡ o
          → then_out (kept_out o s) (λ h. bind_p (list_content h.0).run (λ l. ret_p (made h l))) ≡ done d r → WholeDocument s d
      by (done tag q) e x = by-tag tag q e tag.empty refl x
      by (fault k q) e x = nope cc
      by cut e x = nope cc

  -- the place of node k, from 1
  pub place-whole : (k : ℕ) → document.run s ≡ done d r → 0 < k → k ≤ length (nodes_among d.parts) → length (nodes_among d.parts) ≤ most_nodes → whole_place k s ≡ (node_span s (k - 1)).0
  unfolding whole_place node_span
  place-whole k z low high few =
      let w : WholeDocument s d = document-whole z in
      let n : length (nodes_among d.parts) ≡ length (whole_nodes s) = ap length w.nodes in
      let a : ltb 0 k ≡ true = lt-ltb 0 k low in
      let b : leb k (min most_nodes (length (whole_nodes s))) ≡ true = le-leb k (min most_nodes (length (whole_nodes s))) (omega arith) in
      ap (λ (t : Bool). cond (t && leb k (min most_nodes (length (whole_nodes s)))) (span_of (whole_text s).1 (k - 1) (content_place s)).0 0) a
      ∙ ap (λ (t : Bool). cond t (span_of (whole_text s).1 (k - 1) (content_place s)).0 0) b
      ∙ ap (λ (v : ℕ × ℕ). v.0) (sym (w.spans (k - 1) (omega arith)))
      ∙ ap (λ (o : Out Document). (span_document (k - 1) o).0) (sym z)
