-- What each accepted list is: every node is without fault, and the list passes 12, 11, 10, 23 and 13. Assumes nothing.
use mathlib.Core.Path.{◌≡◌, refl, subst}
use mathlib.Core.Bool.{true}
use mathlib.Core.List.{List, [], ◌∷◌}
use Prim.Native.Nat.{ℕ}
use Rattle.std.proofs.Common.{Ok, Err}
use Rattle.process_list.specs.List.{Verdict, Element, verdict}
use Rattle.valid.specs.Valid.{sound}
use Rattle.grammar.specs.Parse.{Out, done, fault, cut, Turn, again, last}
use Rattle.grammar.specs.Laws.{nope}
use Rattle.grammar.specs.Grammar.{kept, added, items}
use Rattle.xml.specs.Bytes.{bytes, same}
use Rattle.xml.specs.Xml.{Tag}
use Rattle.xml.specs.Elements.{Part, misc, child, close, text_element, info}
use Rattle.clf.specs.Nodes.{NodeName, is_matrix, is_lut1d, is_range, is_cdl, is_lut3d, not_carried, no_node, node_name, node_body}
use Rattle.clf.specs.List.{Child, node, description, input_descriptor, output_descriptor, info_child, Flags, no_flags, child_body, list_item, next_flags, head, Document, list_content, document, tail}
use Rattle.clf.specs.Reading.{accepted, with_child, with_part, nodes_among, reading_by, list_reading, tail_reading, text_reading, read_text}
use Rattle.claims.proofs.Always.{Holds, holds-ret, holds-bad, holds-cond, holds-strict, holds_kept, holds-seq, holds_then, TurnHolds, holds-loop}
use Rattle.claims.proofs.Numbers.{Each, each_more, end_tag-holds}
use Rattle.claims.proofs.Held.{PartHolds, between-holds}
use Rattle.claims.proofs.Tables.{matrix-holds, lut1d-holds, lut3d-holds}
use Rattle.claims.proofs.Ranges.{range-holds}
use Rattle.claims.proofs.Cdls.{cdl-holds}

-- ---- nodes among the children

abbrev pub SoundNode : Element → Type 0
SoundNode n = sound n ≡ true

pub node-holds : (name : NodeName) → Holds SoundNode (node_body name)
node-holds is_matrix = matrix-holds
node-holds is_lut1d = lut1d-holds
node-holds is_range = range-holds
node-holds is_cdl = cdl-holds
node-holds is_lut3d = lut3d-holds
node-holds not_carried = holds-bad 7
node-holds no_node = holds-bad 5

abbrev SoundChild : Child → Type 0
SoundChild (node n) = SoundNode n
SoundChild description = Unit {0}
SoundChild input_descriptor = Unit {0}
SoundChild output_descriptor = Unit {0}
SoundChild info_child = Unit {0}

child-holds : (w : List ℕ) → Holds SoundChild (child_body w)
unfolding child_body
child-holds w =
    holds-cond (same w (bytes "Description")) (λ z. holds_then (text_element w) (λ t. holds-ret tt))
    (λ z. holds-cond (same w (bytes "InputDescriptor")) (λ z. holds_then (text_element w) (λ t. holds-ret tt))
    (λ z. holds-cond (same w (bytes "OutputDescriptor")) (λ z. holds_then (text_element w) (λ t. holds-ret tt))
    (λ z. holds-cond (same w (bytes "Info")) (λ z. holds_then info (λ t. holds-ret tt))
    (λ z. holds-seq SoundNode (node-holds (node_name w)) (λ n k. holds-ret k)))))

abbrev SoundPart : Part Child → Type 0
SoundPart = PartHolds (◌≡◌ {A = ℕ} 0 0) SoundChild

item-holds : (st : Flags) → Holds SoundPart (list_item st)
unfolding list_item
item-holds st = between-holds (◌≡◌ {A = ℕ} 0 0) SoundChild (end_tag-holds (bytes "ProcessList") 0) (λ w h q. child-holds w)

-- ---- the items

abbrev SoundItems : List (Part Child × List ℕ) → Type 0
SoundItems = Each (λ x. SoundPart x.0)

one-item : (l : List (Part Child × List ℕ)) (x : Part Child × List ℕ) → SoundItems l → SoundPart x.0
    → (t : Turn Flags (Unit {0})) → TurnHolds (λ v. SoundItems v.1) SoundItems (added l x t)
one-item l x i k (again st) = each_more (λ y. SoundPart y.0) l (x ∷ []) i (k, tt)
one-item l x i k (last u) = each_more (λ y. SoundPart y.0) l (x ∷ []) i (k, tt)

items-hold : Holds SoundItems (items list_item next_flags no_flags)
items-hold =
    holds-loop (λ v. SoundItems v.1) SoundItems
    (λ v i. holds-seq (λ x. SoundPart x.0) (holds-strict (holds_kept (item-holds v.0))) (λ x k. holds-ret (one-item v.1 x i k (next_flags v.0 x.0))))
    tt

content-holds : (tag : Tag) → Holds SoundItems (list_content tag)
content-holds tag = holds-cond tag.empty (λ z. holds-ret tt) (λ z. items-hold)

document-holds : Holds (λ d. SoundItems d.parts) document
unfolding document
document-holds = holds_then (kept head) (λ h. holds-seq SoundItems (content-holds h.0) (λ l k. holds-ret k))

with-child : (c : Child) (l : List Element) → SoundChild c → Each SoundNode l → Each SoundNode (with_child c l)
with-child (node n) l k e = (k, e)
with-child description l k e = e
with-child input_descriptor l k e = e
with-child output_descriptor l k e = e
with-child info_child l k e = e

with_part_lem : (p : Part Child) (l : List Element) → SoundPart p → Each SoundNode l → Each SoundNode (with_part p l)
with_part_lem misc l k e = e
with_part_lem (child c) l k e = with-child c l k e
with_part_lem close l k e = e

nodes-sound : (l : List (Part Child × List ℕ)) → SoundItems l → Each SoundNode (nodes_among l)
unfolding nodes_among
nodes-sound [] h = tt
nodes-sound (x ∷ l) h = with_part_lem x.0 (nodes_among l) h.0 (nodes-sound l h.1)

-- ---- reading

-- a list that is accepted is the list that was judged
pub judged-same : (room : ℕ) (m l : List Element) → list_reading room m ≡ accepted l → (m ≡ l) × (verdict room m ≡ Ok tt)
unfolding list_reading
judged-same room m l e = go (verdict room m) refl e
  where
    go : (v : Verdict) → verdict room m ≡ v → reading_by m v ≡ accepted l → (m ≡ l) × (verdict room m ≡ Ok tt)
    go (Ok u) q z = (cc, q)
    go (Err why) q z = nope cc

pub record Whole (room : ℕ) (l : List Element) : Type 0 where
  pub nodes : Each SoundNode l
  pub fits : verdict room l ≡ Ok tt

pub text-whole : (room : ℕ) (s : List ℕ) (l : List Element) → read_text room s ≡ accepted l → Whole room l
unfolding read_text
text-whole room s l e = by-document (document.run s) refl e
  where
    by-list : (m : List Element) → Each SoundNode m → list_reading room m ≡ accepted l → Whole room l
    by-list m h q =
        let k : (m ≡ l) × (verdict room m ≡ Ok tt) = judged-same room m l q in
        record { nodes = subst (Each SoundNode) k.0 h; fits = subst (λ (x : List Element). verdict room x ≡ Ok tt) k.0 k.1 }

    by-tail : (d : Document) → SoundItems d.parts → (o : Out (Unit {0})) → tail_reading room s d o ≡ accepted l → Whole room l
    by-tail d h (done u r) q = by-list (nodes_among d.parts) (nodes-sound d.parts h) q
    by-tail d h (fault k r) q = nope cc
    by-tail d h cut q = nope cc

    by-document : (o : Out Document) → document.run s ≡ o → text_reading room s o ≡ accepted l → Whole room l
    by-document (done d r) q z = by-tail d (document-holds.value s d r q) (tail r) z
    by-document (fault k r) q z = nope cc
    by-document cut q z = nope cc
