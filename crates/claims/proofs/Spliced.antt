-- THE SPLICE LAW: an accepted file with other bytes where node k's element stood is read as it was before them, as these bytes alone, and as it was after them. Assumes nothing.
use Rattle.process_list.specs.List.{Element}
use mathlib.Core.Path.{◌≡◌, refl, sym, ap, ◌∙◌, subst}
use mathlib.Core.Bool.{false}
use mathlib.Core.List.{List, [], ◌∷◌, ◌++◌, append_assoc}
use Prim.Native.Nat.{ℕ, ◌+◌, ◌<◌}
use native.Mathlib.Omega.{arith}
use lib.ListN.{length, take, drop, set, length-append}
use lib.Seq.{take_at, drop_at}
use Rattle.grammar.specs.Parse.{Out, done, fault, cut, kept_p}
use Rattle.grammar.specs.Laws.{nope}
use Rattle.grammar.specs.Splice.{flat, turns, fault-law}
use Rattle.xml.specs.Xml.{Tag}
use Rattle.xml.specs.Elements.{child}
use Rattle.clf.specs.List.{node, Flags, no_flags, list_item, next_flags, head, Document, list_content, document, tail}
use Rattle.clf.specs.Reading.{accepted, faulty, nodes_among, place_in, list_reading, tail_reading, text_reading, read_text}
use Rattle.look.specs.Replacing.{element}
use Rattle.clf.specs.Places.{span_document, node_span}
use Rattle.claims.specs.TriedFile.{spliced}
use Rattle.claims.proofs.Accepted.{judged-same}
use Rattle.claims.proofs.View.{as_item, View, is_cut, is20, is_item, view}
use Rattle.claims.proofs.Found.{Items, Found, find, Parts, parts, with-node}
use Rattle.claims.proofs.Tried.{content-items, file, node-c, node-last, tried-is, tried-done, tried-fault}

-- ---- an accepted file is a document, and what stands behind it is read whatever the document is
pub record Opened (room : ℕ) (s : List ℕ) (l : List Element) : Type 0 where
  pub d : Document
  pub r : List ℕ
  pub is : document.run s ≡ done d r
  pub rest : (z : List ℕ) (c : Document) → tail_reading room z c (tail r) ≡ list_reading room (nodes_among c.parts)
  pub same : nodes_among d.parts ≡ l

tail-done : (room : ℕ) (s : List ℕ) (d : Document) (l : List Element) (o : Out (Unit {0})) → tail_reading room s d o ≡ accepted l
    → (z : List ℕ) (c : Document) → tail_reading room z c o ≡ list_reading room (nodes_among c.parts)
tail-done room s d l (done u r) e z c = refl
tail-done room s d l (fault k r) e z c = nope cc
tail-done room s d l cut e z c = nope cc

pub opened : (room : ℕ) (s : List ℕ) (l : List Element) → read_text room s ≡ accepted l → Opened room s l
unfolding read_text
opened room s l e = go (document.run s) refl e
  where
    go : (o : Out Document) → document.run s ≡ o → text_reading room s o ≡ accepted l → Opened room s l
    go (done d r) q z =
        let rest = tail-done room s d l (tail r) z in
        record { d = d; r = r; is = q; rest = rest; same = (judged-same room (nodes_among d.parts) l (sym (rest s d) ∙ z)).0 }
    go (fault k r) q z = nope cc
    go cut q z = nope cc

-- 'from `<` to last `>`'
pub record NodeBytes (c : List ℕ) : Type 0 where
  pub behind : List ℕ
  pub starts : c ≡ 60 ∷ behind
  pub before : List ℕ
  pub ends : c ≡ before ++ 62 ∷ []

-- ---- node k, from 0, in an accepted file
record Stands (room : ℕ) (s : List ℕ) (l : List Element) (k : ℕ) : Type 0 where
  h : List ℕ
  tag : Tag
  u : List ℕ
  bs : Items
  n : Element
  c : List ℕ
  xs : Items
  r : List ℕ
  start : kept_p head.run s ≡ done (tag, h) u
  full : tag.empty ≡ false
  body : turns list_item next_flags no_flags u ≡ done (bs ++ (child (node n), c) ∷ xs) r
  at : node_span s k ≡ (length h + length (flat bs), length c)
  put : (m : Element) (e : List ℕ) → nodes_among (bs ++ (child (node m), e) ∷ xs) ≡ set l k m
  rest : (z : List ℕ) (d : Document) → tail_reading room z d (tail r) ≡ list_reading room (nodes_among d.parts)

stands : (room : ℕ) (s : List ℕ) (l : List Element) (k : ℕ) → Opened room s l → k < length l → Stands room s l k
unfolding node_span
stands room s l k o h =
    let p : Parts s o.d o.r = parts s o.d o.r o.is in
    let f : Found o.d.parts k = find o.d.parts k (subst (λ (m : List Element). k < length m) (sym o.same) h) in
    let b : (list_content p.tag).run p.u ≡ done (f.bs ++ (child (node f.n), f.c) ∷ f.xs) o.r = p.body ∙ ap (λ (x : Items). done x o.r) f.is in
    let full : p.tag.empty ≡ false = with-node p.tag p.u f.bs (child (node f.n), f.c) f.xs o.r b in
    record {
      h = o.d.start;
      tag = p.tag;
      u = p.u;
      bs = f.bs;
      n = f.n;
      c = f.c;
      xs = f.xs;
      r = o.r;
      start = p.head;
      full = full;
      body = sym (content-items p.tag full p.u) ∙ b;
      at = ap (span_document k) o.is ∙ f.at (length o.d.start);
      put = λ m e. f.put m e ∙ ap (λ (x : List Element). set x k m) o.same;
      rest = o.rest;
    }

-- ---- the file with e in its place
module _ (room : ℕ) (s : List ℕ) (l : List Element) (k : ℕ) (p : Stands room s l k) where
  tried : List ℕ → List ℕ
  tried e = p.h ++ (flat p.bs ++ (e ++ (flat p.xs ++ p.r)))

  spliced-is : (e : List ℕ) → spliced s (node_span s k) e ≡ tried e
  unfolding tried
  spliced-is e = ap (λ (w : ℕ × ℕ). spliced s w e) p.at ∙ tried-is s p.h p.tag p.u p.bs p.n p.c p.xs p.r p.start p.full p.body e

  reads-done : (d : List ℕ) (m : Element) → ((v : Flags) → (list_item v).run (60 ∷ d) ≡ done (child (node m)) []) → read_text room (spliced s (node_span s k) (60 ∷ d)) ≡ list_reading room (set l k m)
  unfolding read_text tried
  reads-done d m q =
      ap (λ (z : List ℕ). text_reading room z (document.run z)) (spliced-is (60 ∷ d))
      ∙ ap (text_reading room (tried (60 ∷ d))) (tried-done s p.h p.tag p.u p.bs p.n p.c p.xs p.r p.start p.full p.body d m q)
      ∙ p.rest (tried (60 ∷ d)) (record { start = p.h; parts = p.bs ++ (child (node m), 60 ∷ d) ∷ p.xs })
      ∙ ap (list_reading room) (p.put m (60 ∷ d))

  -- a place in the element, and the same place in the tried file
  place-there : (e w x : List ℕ) → e ≡ x ++ w → place_in (tried e) (w ++ (flat p.xs ++ p.r)) ≡ (node_span s k).0 + place_in e w
  unfolding tried
  place-there e w x q =
      let a : List ℕ = flat p.xs ++ p.r in
      let t : (node_span s k).0 ≡ length p.h + length (flat p.bs) = ap (λ (y : ℕ × ℕ). y.0) p.at in
      omega (arith, length-append p.h (flat p.bs ++ (e ++ a)), length-append (flat p.bs) (e ++ a), length-append e a, length-append w a, length-append x w, ap length q)

  reads-fault : (d : List ℕ) (j : ℕ) (w x : List ℕ) → 60 ∷ d ≡ x ++ w → ((v : Flags) → (list_item v).run (60 ∷ d) ≡ fault j w)
      → read_text room (spliced s (node_span s k) (60 ∷ d)) ≡ faulty j ((node_span s k).0 + place_in (60 ∷ d) w)
  unfolding read_text tried
  reads-fault d j w x f q =
      ap (λ (z : List ℕ). text_reading room z (document.run z)) (spliced-is (60 ∷ d))
      ∙ ap (text_reading room (tried (60 ∷ d))) (tried-fault s p.h p.tag p.u p.bs p.n p.c p.xs p.r p.start p.full p.body d j w q)
      ∙ ap (faulty j) (place-there (60 ∷ d) w x f)

-- what the node's place holds
span-bytes : (room : ℕ) (s : List ℕ) (l : List Element) (k : ℕ) (p : Stands room s l k) → take (node_span s k).1 (drop (node_span s k).0 s) ≡ p.c
span-bytes room s l k p =
    let a : List ℕ = flat p.xs ++ p.r in
    let f : s ≡ p.h ++ (flat p.bs ++ (p.c ++ a)) = file s p.h p.tag p.u p.bs p.n p.c p.xs p.r p.start p.full p.body in
    let g : s ≡ (p.h ++ flat p.bs) ++ (p.c ++ a) = f ∙ sym (append_assoc p.h (flat p.bs) (p.c ++ a)) in
    ap (λ (w : ℕ × ℕ). take w.1 (drop w.0 s)) p.at
    ∙ ap (λ (z : List ℕ). take (length p.c) (drop (length p.h + length (flat p.bs)) z)) g
    ∙ ap (take (length p.c)) (drop_at (p.h ++ flat p.bs) (p.c ++ a) (length p.h + length (flat p.bs)) (length-append p.h (flat p.bs)))
    ∙ take_at p.c a (length p.c) refl

module _ (room : ℕ) (s : List ℕ) (l : List Element) (k : ℕ) (old : read_text room s ≡ accepted l) (there : k < length l) where
  here : Stands room s l k
  here = stands room s l k (opened room s l old) there

  -- what stands in the place of node k starts with `<` and ends with `>`
  pub node-stands : NodeBytes (take (node_span s k).1 (drop (node_span s k).0 s))
  node-stands =
      let p : Stands room s l k = here in
      let q = span-bytes room s l k p in
      let a = node-c s p.h p.tag p.u p.bs p.n p.c p.xs p.r p.start p.full p.body in
      let b = node-last s p.h p.tag p.u p.bs p.n p.c p.xs p.r p.start p.full p.body in
      record { behind = a.0; starts = q ∙ a.1; before = b.0; ends = q ∙ b.1 }

  -- e alone is one node: the file's list is the same but for that node, and is judged anew
  pub spliced-done : (e : List ℕ) (m : Element) → element.run e ≡ done m [] → read_text room (spliced s (node_span s k) e) ≡ list_reading room (set l k m)
  spliced-done e m q = go (view e)
    where
      go : View e → read_text room (spliced s (node_span s k) e) ≡ list_reading room (set l k m)
      go (is_cut z) = nope cc
      go (is20 z) = nope cc
      go (is_item d z f) =
          ap (λ (x : List ℕ). read_text room (spliced s (node_span s k) x)) z
          ∙ reads-done room s l k here d m (λ v. ap (list_item v).run (sym z) ∙ f v ∙ ap as_item q)

  -- e alone is at fault, and not as no element (20): the file is at fault with the same number, at the same place of the element
  pub spliced-fault : (e : List ℕ) (j : ℕ) (w : List ℕ) → element.run e ≡ fault j w → (j ≡ 20 → ⊥)
      → read_text room (spliced s (node_span s k) e) ≡ faulty j ((node_span s k).0 + place_in e w)
  spliced-fault e j w q n = go (view e)
    where
      go : View e → read_text room (spliced s (node_span s k) e) ≡ faulty j ((node_span s k).0 + place_in e w)
      go (is_cut z) = nope cc
      go (is20 z) = absurd (n (cc))
      go (is_item d z f) =
          let y = fault-law element.run e j w (element.law e) q in
          ap (λ (x : List ℕ). read_text room (spliced s (node_span s k) x)) z
          ∙ reads-fault room s l k here d j w y.0 (sym z ∙ y.1) (λ v. ap (list_item v).run (sym z) ∙ f v ∙ ap as_item q)
          ∙ ap (λ (x : List ℕ). faulty j ((node_span s k).0 + place_in x w)) (sym z)
