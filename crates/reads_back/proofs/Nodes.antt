-- A node of ProcessList in front of what follows it. Assumes nothing.
use Rattle.process_list.specs.declared.RangeStyle.{RangeStyle}
use Rattle.process_list.specs.declared.RangeEnd.{RangeEnd}
use Rattle.process_list.specs.declared.CdlStyle.{CdlStyle}
use Rattle.process_list.specs.declared.Interpolation.{Interpolation}
use mathlib.Core.Path.{◌≡◌, refl, sym, ap, ◌∙◌, subst}
use mathlib.Core.Bool.{Bool, true, false}
use mathlib.Core.List.{List, [], ◌∷◌, ◌++◌}
use Prim.Native.Nat.{ℕ, ◌<◌}
use native.Mathlib.Omega.{arith}
use lib.ListN.{length, length-append}
use Rattle.decimal.specs.declared.Decimal.{Decimal}
use Rattle.process_list.specs.declared.Depth.{Depth}
use Rattle.process_list.specs.declared.Kind.{Kind}
use Rattle.process_list.specs.declared.Kind.TheVariants.{Matrix, Lut1d, Range, Cdl, Lut3d, OneEnd}
use Rattle.process_list.specs.List.{Element, numbers_of}
use Rattle.valid.specs.Valid.{shape_right, depths_right, rules_hold, sound}
use Rattle.valid.proofs.Readings.{sound-id}
use Rattle.ids.specs.Ids.{id_allowed}
use Rattle.grammar.specs.Parse.{Out, done, then_out, ret_p}
use Rattle.grammar.specs.Grammar.{G, seq, ret}
use Rattle.xml.specs.Bytes.{bytes, same}
use Rattle.xml.specs.Xml.{end_tag}
use Rattle.xml.specs.Elements.{child}
use Rattle.clf.specs.Nodes.{node_name, matrix, lut1d, range, asc_cdl, lut3d}
use Rattle.clf.specs.List.{Child, node, Flags, child_fault, child_body, list_item}
use Rattle.written_form.specs.Written.{depth_text, name_text, style_text}
use Rattle.written_form.proofs.Tail.{content_text, node_id_text, start_text, end_text, node_text}
use Rattle.reads_back.proofs.Texts.{rest-short, is_name}
use Rattle.reads_back.proofs.Held.{between-child}
use Rattle.reads_back.proofs.Tables.{space-name, matrix-name, lut-name, cube-name, matrix-reads, lut-reads, cube-reads}
use Rattle.reads_back.proofs.Ranges.{range-name, range-reads, one-end-reads}
use Rattle.reads_back.proofs.Cdls.{cdl-name, cdl-reads}
use Rattle.written_form.proofs.Short.{Parts, sound-parts}
use Rattle.reads_back.proofs.Sound.{any-kept, Four, four, range-order, Two, two, pair-equal, TenOf, ten-of, ten-kept}

-- ---- a child of each of the five names

name-right : (k : Kind) → is_name (name_text k) ≡ true
name-right (Matrix wide) = matrix-name
name-right (Lut1d entries columns) = lut-name
name-right (Range style) = range-name
name-right (Cdl style) = cdl-name
name-right (Lut3d points interpolation) = cube-name
name-right (OneEnd end) = range-name

fault-none : (st : Flags) (k : Kind) → child_fault st (name_text k) ≡ 0
unfolding child_fault node_name same
fault-none st (Matrix wide) = refl
fault-none st (Lut1d entries columns) = refl
fault-none st (Range style) = refl
fault-none st (Cdl style) = refl
fault-none st (Lut3d points interpolation) = refl
fault-none st (OneEnd end) = refl

-- the grammar of each
abbrev body_of : Kind → G Element
body_of (Matrix wide) = matrix
body_of (Lut1d entries columns) = lut1d
body_of (Range style) = range
body_of (Cdl style) = asc_cdl
body_of (Lut3d points interpolation) = lut3d
body_of (OneEnd end) = range

child-is : (k : Kind) → child_body (name_text k) ≡ seq (body_of k) (λ n. ret (node n))
unfolding child_body node_name same
child-is (Matrix wide) = refl
child-is (Lut1d entries columns) = refl
child-is (Range style) = refl
child-is (Cdl style) = refl
child-is (Lut3d points interpolation) = refl
child-is (OneEnd end) = refl

-- ---- what stands behind a node's name, up to the LF behind its end tag

abbrev behind_name : Element → List ℕ → List ℕ
behind_name e t =
    bytes "inBitDepth=\"" ++ (depth_text e.input ++ (bytes "\" outBitDepth=\"" ++ (depth_text e.output ++ (bytes "\"" ++ node_id_text e.id (style_text e.kind ++ (bytes ">\n" ++
    content_text e.kind e.numbers (end_text e.kind t)))))))

-- a node's grammar reads its element, and leaves the LF
abbrev Back : Element → List ℕ → Type 0
Back e t = (body_of e.kind).run (32 ∷ behind_name e t) ≡ done e (10 ∷ t)

module _ (i o : Depth) (id : List ℕ) (h : id_allowed id ≡ true) (t : List ℕ) where
  -- so it does for a sound node of these depths, this id and these numbers
  abbrev SoundBack : Kind → List Decimal → Type 0
  SoundBack k ds = Parts k i o ds → Back (record { kind = k; input = i; output = o; id = id; numbers = ds }) t

  matrix-body : (wide : Bool) (ds : List Decimal) → SoundBack (Matrix wide) ds
  unfolding content_text end_text numbers_of
  matrix-body true ds p = matrix-reads i o id h true ds (10 ∷ t) (any-kept ds p.each) p.count (sym p.count)
  matrix-body false ds p = matrix-reads i o id h false ds (10 ∷ t) (any-kept ds p.each) p.count (sym p.count)

  lut-body : (n c : ℕ) (ds : List Decimal) → SoundBack (Lut1d n c) ds
  unfolding content_text end_text numbers_of shape_right
  lut-body n c ds p = lut-reads i o id h n c ds (10 ∷ t) p.shape (any-kept ds p.each) p.count (sym p.count)

  cube-body : (n : ℕ) (m : Interpolation) (ds : List Decimal) → SoundBack (Lut3d n m) ds
  unfolding content_text end_text numbers_of shape_right
  cube-body n m ds p = cube-reads i o id h n m ds (10 ∷ t) p.shape (any-kept ds p.each) p.count (sym p.count)

  range-four : (style : RangeStyle) (a b c d : Decimal) → SoundBack (Range style) (a ∷ b ∷ c ∷ d ∷ [])
  unfolding content_text end_text rules_hold
  range-four style a b c d p = range-reads i o id h a b c d style (10 ∷ t) (any-kept (a ∷ b ∷ c ∷ d ∷ []) p.each) (range-order a b c d p.rules)

  range-body : (style : RangeStyle) (ds : List Decimal) → SoundBack (Range style) ds
  unfolding numbers_of
  range-body style ds p =
      let f : Four ds = four ds p.count in
      subst (SoundBack (Range style)) (sym f.is) (range-four style f.a f.b f.c f.d) p

  one-end-two : (end : RangeEnd) (a b : Decimal) → SoundBack (OneEnd end) (a ∷ b ∷ [])
  unfolding content_text end_text rules_hold depths_right
  one-end-two end a b p = one-end-reads i o id h end a b (10 ∷ t) (any-kept (a ∷ b ∷ []) p.each) (pair-equal a b p.rules) p.depths

  one-end-body : (end : RangeEnd) (ds : List Decimal) → SoundBack (OneEnd end) ds
  unfolding numbers_of
  one-end-body end ds p =
      let f : Two ds = two ds p.count in
      subst (SoundBack (OneEnd end)) (sym f.is) (one-end-two end f.a f.b) p

  cdl-ten : (style : CdlStyle) (s1 s2 s3 o1 o2 o3 p1 p2 p3 v : Decimal) → SoundBack (Cdl style) (s1 ∷ s2 ∷ s3 ∷ o1 ∷ o2 ∷ o3 ∷ p1 ∷ p2 ∷ p3 ∷ v ∷ [])
  unfolding content_text end_text rules_hold
  cdl-ten style s1 s2 s3 o1 o2 o3 p1 p2 p3 v p =
      cdl-reads s1 s2 s3 o1 o2 o3 p1 p2 p3 v (ten-kept s1 s2 s3 o1 o2 o3 p1 p2 p3 v p.each p.rules) i o id h style (10 ∷ t)

  cdl-body : (style : CdlStyle) (ds : List Decimal) → SoundBack (Cdl style) ds
  unfolding numbers_of
  cdl-body style ds p =
      let f : TenOf ds = ten-of ds p.count in
      subst (SoundBack (Cdl style)) (sym f.is) (cdl-ten style f.s1 f.s2 f.s3 f.o1 f.o2 f.o3 f.p1 f.p2 f.p3 f.v) p

  kind-body : (k : Kind) (ds : List Decimal) → SoundBack k ds
  kind-body (Matrix wide) ds p = matrix-body wide ds p
  kind-body (Lut1d n c) ds p = lut-body n c ds p
  kind-body (Range style) ds p = range-body style ds p
  kind-body (Cdl style) ds p = cdl-body style ds p
  kind-body (Lut3d n m) ds p = cube-body n m ds p
  kind-body (OneEnd end) ds p = one-end-body end ds p

-- as a child of ProcessList
node-body : (e : Element) (t : List ℕ) → sound e ≡ true → (child_body (name_text e.kind)).run (32 ∷ behind_name e t) ≡ done (node e) (10 ∷ t)
node-body e t h =
    ap (λ (g : G Child). g.run (32 ∷ behind_name e t)) (child-is e.kind)
    ∙ ap (λ (x : Out Element). then_out x (λ n. ret_p (node n))) (kind-body e.input e.output e.id (sound-id e h) t e.kind e.numbers (sound-parts e h))

-- A WRITTEN NODE READS BACK, as an item of ProcessList; the LF behind it is left
pub node-reads : (st : Flags) (e : Element) (t : List ℕ) → sound e ≡ true → (list_item st).run (node_text e t) ≡ done (child (node e)) (10 ∷ t)
unfolding list_item node_text start_text
node-reads st e t h =
    between-child (end_tag (bytes "ProcessList") 0) (child_fault st) child_body (name_text e.kind) 32 (behind_name e t) (node e) (10 ∷ t)
    (name-right e.kind) space-name (fault-none st e.kind) (node-body e t h)

-- it takes bytes
pub node-shorter : (e : Element) (t : List ℕ) → sound e ≡ true → length (10 ∷ t) < length (node_text e t)
unfolding node_text start_text
node-shorter e t h =
    omega (arith, rest-short (child_body (name_text e.kind)) (32 ∷ behind_name e t) (node e) (10 ∷ t) (node-body e t h), length-append (name_text e.kind) (32 ∷ behind_name e t))
