-- A node's bytes end with `>`. Assumes nothing.
use Rattle.process_list.specs.List.{Element}
use mathlib.Core.Path.{◌≡◌, refl, sym, ap, ◌∙◌}
use mathlib.Core.Bool.{Bool, true, false, cond}
use mathlib.Core.List.{List, [], ◌∷◌, ◌++◌, append_assoc}
use mathlib.Core.Logic.{◌⊎◌, inl, inr}
use Prim.Native.Nat.{ℕ}
use native.Mathlib.Omega.{arith}
use lib.Dec.{eqb}
use lib.ListN.{length, length-append, take}
use lib.Seq.{take_at}
use Rattle.grammar.specs.Parse.{done, ret_p}
use Rattle.grammar.specs.Laws.{nope}
use Rattle.grammar.specs.Grammar.{G, ret, bad, look_two, judge, settle, eat, seq, ◌>>◌}
use Rattle.grammar.specs.Splice.{done-law, bind_inv, strict-inv}
use Rattle.xml.specs.Bytes.{bytes, same, is_space, less_than, slash, exclamation, question, ampersand}
use Rattle.xml.specs.Xml.{entity, comment, Tag, start_tag, open_name, end_tag}
use Rattle.xml.specs.Elements.{Part, misc, child, close, markup, between, held, text_element, info}
use Rattle.clf.specs.Nodes.{node_rules, array_holder, no_array, table_node, matrix_shape, matrix, lut_shape, lut_names, lut_texts, lut1d, cube_texts, cube_shape_by, lut3d, range_holder, no_values, range_texts, one_end_allowed_by, range_node}
use Rattle.clf.specs.Nodes.{range, CdlState, cdl_holder, no_cdl, cdl_rules, cdl_content, cdl_node, asc_cdl, NodeName, is_matrix, is_lut1d, is_range, is_cdl, is_lut3d, not_carried, no_node}
use Rattle.clf.specs.Nodes.{node_name, node_body}
use Rattle.clf.specs.List.{Child, node, description, input_descriptor, output_descriptor, info_child, Flags, child_fault, child_body, list_item}
use Rattle.claims.proofs.Closing.{Ended, further, Closes, Stops, closes-last, closes-ret, closes-stops, stops-ret, start_tag-closes, held-closes}

-- ---- nodes

matrix-closes : Closes matrix
unfolding matrix
matrix-closes = closes-last (start_tag (node_rules (λ w. 0) (λ w t. 0))) (λ tag. closes-ret (table_node tag.attributes) (held-closes (array_holder (bytes "Matrix") matrix_shape) no_array))

lut1d-closes : Closes lut1d
unfolding lut1d
lut1d-closes = closes-last (start_tag (node_rules lut_names lut_texts)) (λ tag. closes-ret (table_node tag.attributes) (held-closes (array_holder (bytes "LUT1D") lut_shape) no_array))

lut3d-closes : Closes lut3d
unfolding lut3d
lut3d-closes =
    closes-last (start_tag (node_rules (λ w. 0) cube_texts)) (λ tag.
    closes-ret (table_node tag.attributes) (held-closes (array_holder (bytes "LUT3D") (cube_shape_by tag.attributes)) no_array))

range-closes : Closes range
unfolding range
range-closes = closes-last (start_tag (node_rules (λ w. 0) range_texts)) (λ tag. closes-ret (range_node tag.attributes) (held-closes (range_holder (one_end_allowed_by tag.attributes)) no_values))

content-stops : (tag : Tag) → Stops (cdl_content tag)
content-stops tag = record { at = λ s st r e. go s st r tag.empty e }
  where
    go : (s : List ℕ) (st : CdlState) (r : List ℕ) (v : Bool) → (cond v (ret no_cdl) (held cdl_holder no_cdl)).run s ≡ done st r → (s ≡ r) ⊎ Ended s r
    go s st r true z = inl (cc)
    go s st r false z = inr ((held-closes cdl_holder no_cdl).at s st r z)

cdl-closes : Closes asc_cdl
unfolding asc_cdl
cdl-closes = closes-stops (start_tag-closes cdl_rules) (λ tag. stops-ret (cdl_node tag.attributes) (content-stops tag))

node-closes : (n : NodeName) → Closes (node_body n)
node-closes is_matrix = matrix-closes
node-closes is_lut1d = lut1d-closes
node-closes is_range = range-closes
node-closes is_cdl = cdl-closes
node-closes is_lut3d = lut3d-closes
node-closes not_carried = record { at = λ s a r e. nope cc }
node-closes no_node = record { at = λ s a r e. nope cc }

-- ---- a node as an item

child-closes : (w s : List ℕ) (n : Element) (r : List ℕ) → (child_body w).run s ≡ done (node n) r → Ended s r
unfolding child_body
child-closes w s n r e = go (same w (bytes "Description")) (same w (bytes "InputDescriptor")) (same w (bytes "OutputDescriptor")) (same w (bytes "Info")) e
  where
    go : (a b c d : Bool)
        → (cond a (text_element w >> ret description) (cond b (text_element w >> ret input_descriptor) (cond c (text_element w >> ret output_descriptor) (cond d (info >> ret info_child)
        (seq (node_body (node_name w)) (λ m. ret (node m))))))).run s ≡ done (node n) r → Ended s r
    go true b c d z = let i = bind_inv (text_element w).run (λ t. ret_p description) s (node n) r z in nope (cc i.3)
    go false true c d z = let i = bind_inv (text_element w).run (λ t. ret_p input_descriptor) s (node n) r z in nope (cc i.3)
    go false false true d z = let i = bind_inv (text_element w).run (λ t. ret_p output_descriptor) s (node n) r z in nope (cc i.3)
    go false false false true z = let i = bind_inv info.run (λ t. ret_p info_child) s (node n) r z in nope (cc i.3)
    go false false false false z = (closes-ret node (node-closes (node_name w))).at s (node n) r z

module _ (st : Flags) (n : Element) (r : List ℕ) where
  abbrev end : G (Unit {0})
  end = end_tag (bytes "ProcessList") 0

  markup-node : (a b : ℕ) (s : List ℕ) → (markup end (child_fault st) child_body a b).run s ≡ done (child (node n)) r → Ended s r
  markup-node a b s e = go (eqb b slash) (eqb b exclamation) (eqb b question) e
    where
      inner : G (Part Child)
      inner = seq (judge (child_fault st) open_name) (λ w. seq (child_body w) (λ v. ret (child v)))

      go : (v w z : Bool) → (cond v (end >> ret close) (cond w (comment >> ret misc) (cond z (bad 3) inner))).run s ≡ done (child (node n)) r → Ended s r
      go true w z f = let i = bind_inv end.run (λ u. ret_p close) s (child (node n)) r f in nope (cc i.3)
      go false true z f = let i = bind_inv comment.run (λ u. ret_p misc) s (child (node n)) r f in nope (cc i.3)
      go false false true f = nope cc
      go false false false f =
          let i = bind_inv (judge (child_fault st) open_name).run (λ w. (seq (child_body w) (λ v. ret (child v))).run) s (child (node n)) r f in
          let d = done-law (judge (child_fault st) open_name).run s i.0 i.1 ((judge (child_fault st) open_name).law s) i.2 in
          let j = bind_inv (child_body i.0).run (λ v. ret_p (child v)) i.1 (child (node n)) r i.3 in
          let y : j.0 ≡ node n = cc in
          let z : j.1 ≡ r = cc in
          further s d.0 i.1 r d.1 (child-closes i.0 i.1 n r (j.2 ∙ ap (λ (v : Child). done v j.1) y ∙ ap (done (node n)) z))

  node-item : (s : List ℕ) → (list_item st).run s ≡ done (child (node n)) r → Ended s r
  unfolding list_item between
  node-item [] e = nope cc
  node-item (b ∷ s) e = go (is_space b) (eqb b less_than) (eqb b ampersand) e
    where
      two : (s : List ℕ) → (look_two (markup end (child_fault st) child_body)).run s ≡ done (child (node n)) r → Ended s r
      two [] f = nope cc
      two (x ∷ []) f = nope cc
      two (x ∷ y ∷ s) f = markup-node x y (x ∷ y ∷ s) (strict-inv (markup end (child_fault st) child_body x y).run (x ∷ y ∷ s) (child (node n)) r f)

      go : (v w z : Bool) → (cond v (eat >> ret misc) (cond w (look_two (markup end (child_fault st) child_body)) (cond z (settle 5 entity >> bad 5) (bad 5)))).run (b ∷ s) ≡ done (child (node n)) r
          → Ended (b ∷ s) r
      go true w z f = nope cc
      go false true z f = two (b ∷ s) f
      go false false true f = let i = bind_inv (settle 5 entity).run (λ u. (bad {A = Part Child} 5).run) (b ∷ s) (child (node n)) r f in nope (cc i.3)
      go false false false f = nope cc

-- the bytes of a node's item end with `>`
pub node_end : (st : Flags) (c u : List ℕ) (n : Element) → (list_item st).run (c ++ u) ≡ done (child (node n)) u → (d : List ℕ) × (c ≡ d ++ 62 ∷ [])
node_end st c u n e =
    let k : Ended (c ++ u) u = node-item st n u (c ++ u) e in
    let q : c ++ u ≡ (k.c ++ 62 ∷ []) ++ u = k.is ∙ sym (append_assoc k.c (62 ∷ []) u) in
    let l : length (k.c ++ 62 ∷ []) ≡ length c = omega (arith, ap length q, length-append c u, length-append (k.c ++ 62 ∷ []) u) in
    (k.c, sym (take_at c u (length c) refl) ∙ ap (take (length c)) q ∙ take_at (k.c ++ 62 ∷ []) u (length c) l)
