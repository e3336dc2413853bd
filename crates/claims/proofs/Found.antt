-- Node k among the items of a file, and the parts of a file that is accepted. Assumes nothing.
use Rattle.process_list.specs.List.{Element}
use mathlib.Core.Path.{◌≡◌, refl, ap, ◌∙◌}
use mathlib.Core.Bool.{Bool, true, false, cond}
use mathlib.Core.List.{List, [], ◌∷◌, ◌++◌}
use Prim.Native.Nat.{ℕ, zero, suc, ◌+◌, ◌<◌}
use native.Mathlib.Omega.{arith}
use lib.Dec.{eqb}
use lib.ListN.{length, set, length-append}
use borrow.Author.Tests.{eqb-true}
use Rattle.grammar.specs.Parse.{Out, done, bind_p, ret_p, kept_p}
use Rattle.grammar.specs.Laws.{nope}
use Rattle.grammar.specs.Grammar.{ret, bad, look_two, settle, eat, items, ◌>>◌}
use Rattle.grammar.specs.Splice.{bind_inv, flat}
use Rattle.xml.specs.Bytes.{bytes, is_space, less_than, ampersand}
use Rattle.xml.specs.Xml.{Tag, entity, end_tag}
use Rattle.xml.specs.Elements.{Part, misc, child, close, markup, between}
use Rattle.clf.specs.List.{Child, node, description, input_descriptor, output_descriptor, info_child, Flags, no_flags, child_fault, child_body, list_item, next_flags, head, Document, list_content, document}
use Rattle.clf.specs.Reading.{with_part, nodes_among}
use Rattle.clf.specs.Places.{span_of}

abbrev pub Items : Type 0
Items = List (Part Child × List ℕ)

-- ---- node k, from 0, among items

pub record Found (ps : Items) (k : ℕ) : Type 0 where
  pub bs : Items
  pub n : Element
  pub c : List ℕ
  pub xs : Items
  pub is : ps ≡ bs ++ (child (node n), c) ∷ xs
  pub at : (a : ℕ) → span_of ps k a ≡ (a + length (flat bs), length c)
  pub put : (m : Element) (e : List ℕ) → nodes_among (bs ++ (child (node m), e) ∷ xs) ≡ set (nodes_among ps) k m

-- the same node, with one item more before it
found-more : (y : Part Child) (c : List ℕ) (ps : Items) (k j : ℕ) → Found ps k
    → ((a : ℕ) → span_of ((y, c) ∷ ps) j a ≡ span_of ps k (a + length c))
    → ((m : Element) → with_part y (set (nodes_among ps) k m) ≡ set (with_part y (nodes_among ps)) j m) → Found ((y, c) ∷ ps) j
unfolding nodes_among
found-more y c ps k j f w q = record {
  bs = (y, c) ∷ f.bs;
  n = f.n;
  c = f.c;
  xs = f.xs;
  is = ap (λ (l : Items). (y, c) ∷ l) f.is;
  at = λ a. w a ∙ f.at (a + length c) ∙ ap (λ (i : ℕ). (i, length f.c)) (simp length-append (omega arith));
  put = λ m e. ap (with_part y) (f.put m e) ∙ q m;
}

module _ (ps : Items) (c : List ℕ) (ih : (k : ℕ) → k < length (nodes_among ps) → Found ps k) where
  at-node : (n : Element) (k : ℕ) → k < suc (length (nodes_among ps)) → Found ((child (node n), c) ∷ ps) k
  unfolding span_of nodes_among
  at-node n zero h = record { bs = []; n = n; c = c; xs = ps; is = refl; at = λ a. ap (λ (i : ℕ). (i, length c)) (omega arith); put = λ m e. refl }
  at-node n (suc k) h = found-more (child (node n)) c ps k (suc k) (ih k (omega arith)) (λ a. refl) (λ m. refl)

  at_part : (y : Part Child) (k : ℕ) → k < length (with_part y (nodes_among ps)) → Found ((y, c) ∷ ps) k
  unfolding span_of
  at_part misc k h = found-more misc c ps k k (ih k h) (λ a. refl) (λ m. refl)
  at_part (child (node n)) k h = at-node n k h
  at_part (child description) k h = found-more (child description) c ps k k (ih k h) (λ a. refl) (λ m. refl)
  at_part (child input_descriptor) k h = found-more (child input_descriptor) c ps k k (ih k h) (λ a. refl) (λ m. refl)
  at_part (child output_descriptor) k h = found-more (child output_descriptor) c ps k k (ih k h) (λ a. refl) (λ m. refl)
  at_part (child info_child) k h = found-more (child info_child) c ps k k (ih k h) (λ a. refl) (λ m. refl)
  at_part close k h = found-more close c ps k k (ih k h) (λ a. refl) (λ m. refl)

pub find : (ps : Items) (k : ℕ) → k < length (nodes_among ps) → Found ps k
unfolding nodes_among
find [] k h = absurd (omega arith)
find (x ∷ ps) k h = at_part ps x.1 (find ps) x.0 k h

-- ---- a node's bytes start with `<`

node-start : (st : Flags) (s : List ℕ) (n : Element) (r : List ℕ) → (list_item st).run s ≡ done (child (node n)) r → (d : List ℕ) × (s ≡ 60 ∷ d)
unfolding list_item between
node-start st [] n r e = nope cc
node-start st (b ∷ s) n r e = go (is_space b) (eqb b less_than) (eqb b ampersand) refl e
  where
    go : (v w z : Bool) → eqb b less_than ≡ w
        → (cond v (eat >> ret misc) (cond w (look_two (markup (end_tag (bytes "ProcessList") 0) (child_fault st) child_body)) (cond z (settle 5 entity >> bad 5) (bad 5)))).run (b ∷ s)
        ≡ done (child (node n)) r → (d : List ℕ) × (b ∷ s ≡ 60 ∷ d)
    go true w z q f = nope cc
    go false true z q f = (s, ap (λ (x : ℕ). x ∷ s) (eqb-true b less_than q))
    go false false true q f = let i = bind_inv (settle 5 entity).run (λ u. (bad {A = Part Child} 5).run) (b ∷ s) (child (node n)) r f in nope (cc i.3)
    go false false false q f = nope cc

pub node-bytes : (st : Flags) (c u : List ℕ) (n : Element) → (list_item st).run (c ++ u) ≡ done (child (node n)) u → 0 < length c → (d : List ℕ) × (c ≡ 60 ∷ d)
node-bytes st [] u n q h = absurd (omega arith)
node-bytes st (x ∷ c) u n q h =
    let k : (d : List ℕ) × (x ∷ c ++ u ≡ 60 ∷ d) = node-start st (x ∷ c ++ u) n u q in
    let z : x ∷ (c ++ u) ≡ 60 ∷ k.0 = k.1 in
    let y : x ≡ 60 = cc in
    (c, ap (λ (b : ℕ). b ∷ c) y)

-- ---- a document: its root's start tag, and the items

pub record Parts (s : List ℕ) (d : Document) (r : List ℕ) : Type 0 where
  pub tag : Tag
  pub u : List ℕ
  pub head : kept_p head.run s ≡ done (tag, d.start) u
  pub body : (list_content tag).run u ≡ done d.parts r

pub parts : (s : List ℕ) (d : Document) (r : List ℕ) → document.run s ≡ done d r → Parts s d r
unfolding document
parts s d r e =
    let i = bind_inv (kept_p head.run) (λ h. bind_p (list_content h.0).run (λ l. ret_p (record { start = h.1; parts = l }))) s d r e in
    let j = bind_inv (list_content i.0.0).run (λ l. ret_p (record { start = i.0.1; parts = l })) i.1 d r i.3 in
    let q : ◌≡◌ {A = Out Document} (done (record { start = i.0.1; parts = j.0 }) j.1) (done d r) = j.3 in
    let y : ◌≡◌ {A = Document} (record { start = i.0.1; parts = j.0 }) d = cc in
    let a : i.0.1 ≡ d.start = ap (λ (x : Document). x.start) y in
    let b : j.0 ≡ d.parts = ap (λ (x : Document). x.parts) y in
    let z : j.1 ≡ r = cc in
    record {
      tag = i.0.0;
      u = i.1;
      head = i.2 ∙ ap (λ (x : List ℕ). done (i.0.0, x) i.1) a;
      body = j.2 ∙ ap (λ (x : Items). done x j.1) b ∙ ap (done d.parts) z;
    }

-- a ProcessList with a node is not empty
pub with-node : (tag : Tag) (u : List ℕ) (bs : Items) (x : Part Child × List ℕ) (xs : Items) (r : List ℕ) → (list_content tag).run u ≡ done (bs ++ x ∷ xs) r → tag.empty ≡ false
with-node tag u bs x xs r e = go tag.empty e
  where
    none : (bs : Items) → [] ≡ bs ++ x ∷ xs → true ≡ false
    none [] z = nope cc
    none (y ∷ bs) z = nope cc

    go : (v : Bool) → (cond v (ret []) (items list_item next_flags no_flags)).run u ≡ done (bs ++ x ∷ xs) r → v ≡ false
    go true z = none bs (cc)
    go false z = refl
