-- A node's start tag in front of what follows it: its depths, its id if it has one, its last attribute, its end. Assumes nothing.
use mathlib.Core.Path.{◌≡◌, refl, ap, ◌∙◌}
use mathlib.Core.Bool.{true, false}
use mathlib.Core.List.{List, [], ◌∷◌, ◌++◌}
use mathlib.Core.Option.{some}
use Prim.Native.Nat.{ℕ}
use Rattle.decimal.specs.declared.Decimal.{Decimal}
use Rattle.process_list.specs.declared.Depth.{Depth}
use Rattle.process_list.specs.declared.Depth.TheVariants.{I8, I10, I12, I16, F16, F32}
use Rattle.process_list.specs.declared.Kind.{Kind}
use Rattle.valid.specs.Valid.{every}
use Rattle.valid.proofs.Readings.{same_self}
use Rattle.grammar.specs.Parse.{done}
use Rattle.xml.specs.Bytes.{bytes, same, is_letter, is_digit, is_name_byte}
use Rattle.xml.specs.Xml.{Attribute, is_named, text_of, Rules, name_fault, start_tag}
use Rattle.ids.specs.Ids.{id_right, most_node_id_bytes, id_allowed}
use Rattle.clf.specs.Nodes.{depth_of, node_texts, node_missing, element_with}
use Rattle.written_form.specs.Written.{depth_text}
use Rattle.written_form.proofs.Tail.{depths_text, node_id_text}
use Rattle.reads_back.proofs.Texts.{is_name}
use Rattle.reads_back.proofs.Tags.{quoted, tag_from, tag-from, tag-ends, tag-more}
use Rattle.reads_back.proofs.Ids.{id-name, id-quoted}

-- the text of a depth says it
pub depth-said : (d : Depth) → depth_of (depth_text d) ≡ some d
unfolding depth_of same
depth-said I8 = refl
depth-said I10 = refl
depth-said I12 = refl
depth-said I16 = refl
depth-said F16 = refl
depth-said F32 = refl

depth-quoted : (d : Depth) → quoted (depth_text d) ≡ true
unfolding every
depth-quoted I8 = refl
depth-quoted I10 = refl
depth-quoted I12 = refl
depth-quoted I16 = refl
depth-quoted F16 = refl
depth-quoted F32 = refl

-- a node's attributes: in, out, and what follows them
abbrev pub with_depths : Depth → Depth → List Attribute → List Attribute
with_depths input output more = record { name = bytes "inBitDepth"; text = depth_text input } ∷ record { name = bytes "outBitDepth"; text = depth_text output } ∷ more

-- a node's id among its attributes: none where it has none
abbrev pub id_of : List ℕ → List Attribute
id_of [] = []
id_of (b ∷ s) = record { name = bytes "id"; text = b ∷ s } ∷ []

-- it is said there: alone, or before an attribute of another name
pub id-said : (id : List ℕ) → text_of (bytes "id") (id_of id) ≡ id
unfolding text_of same
id-said [] = refl
id-said (b ∷ s) = refl

pub id-said-first : (id w v : List ℕ) → same (bytes "id") w ≡ false → text_of (bytes "id") (id_of id ++ record { name = w; text = v } ∷ []) ≡ id
unfolding text_of same
id-said-first [] w v h = rw h
id-said-first (b ∷ s) w v h = refl

-- the node of these attributes is the element
pub node-is : (input output : Depth) (id : List ℕ) (more : List Attribute) (kind : Kind) (ns : List Decimal) → text_of (bytes "id") more ≡ id
    → element_with (with_depths input output more) kind ns ≡ record { kind = kind; input = input; output = output; id = id; numbers = ns }
unfolding text_of same
node-is input output id more kind ns e = rw (depth-said input, depth-said output, e)

in-name : is_name (bytes "inBitDepth") ≡ true
unfolding is_name is_name_byte is_letter is_digit every
in-name = refl

out_name : is_name (bytes "outBitDepth") ≡ true
unfolding is_name is_name_byte is_letter is_digit every
out_name = refl

style-name : is_name (bytes "style") ≡ true
unfolding is_name is_name_byte is_letter is_digit every
style-name = refl

-- an attribute behind the depths and the id: ` w="v"`
abbrev pub last_text : List ℕ → List ℕ → List ℕ → List ℕ
last_text w v t = 32 ∷ (w ++ 61 ∷ 34 ∷ (v ++ 34 ∷ t))

-- a node's rules ask for depths and judge an id; none of the three names is at fault
pub record NodeRules (rules : Rules) : Type 0 where
  pub rest : List ℕ → List ℕ → ℕ
  pub texts : rules.texts ≡ node_texts rest
  pub opened : rules.opened ≡ node_missing
  pub in-free : rules.names (bytes "inBitDepth") ≡ 0
  pub out-free : rules.names (bytes "outBitDepth") ≡ 0
  pub id-free : rules.names (bytes "id") ≡ 0

-- a name that an attribute behind the depths and the id may have: none of theirs, and the rules do not judge it
pub record LastName (rules : Rules) (w : List ℕ) : Type 0 where
  pub name : is_name w ≡ true
  pub not_in : same w (bytes "inBitDepth") ≡ false
  pub not-out : same w (bytes "outBitDepth") ≡ false
  pub not-id : same w (bytes "id") ≡ false
  pub id-not : same (bytes "id") w ≡ false
  pub free : rules.names w ≡ 0

pub style-last : (rules : Rules) → rules.names (bytes "style") ≡ 0 → LastName rules (bytes "style")
unfolding same
style-last rules f = record { name = style-name; not_in = refl; not-out = refl; not-id = refl; id-not = refl; free = f }

module _ (rules : Rules) (n : NodeRules rules) where
  in-fine : (d : Depth) → rules.texts (bytes "inBitDepth") (depth_text d) ≡ 0
  unfolding same
  in-fine d = ap (λ (f : List ℕ → List ℕ → ℕ). f (bytes "inBitDepth") (depth_text d)) n.texts ∙ rw (depth-said d)

  out-fine : (d : Depth) → rules.texts (bytes "outBitDepth") (depth_text d) ≡ 0
  unfolding same
  out-fine d = ap (λ (f : List ℕ → List ℕ → ℕ). f (bytes "outBitDepth") (depth_text d)) n.texts ∙ rw (depth-said d)

  in-new : name_fault rules [] (bytes "inBitDepth") ≡ 0
  unfolding is_named
  in-new = n.in-free

  out-new : (d : Depth) → name_fault rules (record { name = bytes "inBitDepth"; text = depth_text d } ∷ []) (bytes "outBitDepth") ≡ 0
  unfolding is_named same
  out-new d = n.out-free

  id-fine : (id : List ℕ) → id_right most_node_id_bytes id ≡ true → rules.texts (bytes "id") id ≡ 0
  unfolding same
  id-fine id h = ap (λ (f : List ℕ → List ℕ → ℕ). f (bytes "id") id) n.texts ∙ rw h

  id-new : (i o : Depth) → name_fault rules (with_depths i o []) (bytes "id") ≡ 0
  unfolding is_named same
  id-new i o = n.id-free

  module _ (w : List ℕ) (last : LastName rules w) where
    last-new : (i o : Depth) (id : List ℕ) → name_fault rules (with_depths i o (id_of id)) w ≡ 0
    unfolding is_named
    last-new i o [] = rw (last.not_in, last.not-out) last.free
    last-new i o (b ∷ s) = rw (last.not_in, last.not-out, last.not-id) last.free

    last-fine : (v : List ℕ) → n.rest w v ≡ 0 → rules.texts w v ≡ 0
    last-fine v e = ap (λ (f : List ℕ → List ℕ → ℕ). f w v) n.texts ∙ rw (last.not_in, last.not-out, last.not-id) e

    -- what it says, whatever id stands before it
    pub last-said : (i o : Depth) (id v : List ℕ) → text_of w (with_depths i o (id_of id ++ record { name = w; text = v } ∷ [])) ≡ v
    unfolding text_of
    last-said i o [] v = rw (last.not_in, last.not-out, same_self w)
    last-said i o (b ∷ s) v = rw (last.not_in, last.not-out, last.not-id, same_self w)

  all_there : (i o : Depth) (more : List Attribute) → rules.opened (with_depths i o more) ≡ 0
  unfolding is_named same
  all_there i o more = ap (λ (f : List Attribute → ℕ). f (with_depths i o more)) n.opened

  depths-read : (i o : Depth) (t : List ℕ) → tag_from rules [] (depths_text i o t) ≡ tag_from rules (with_depths i o []) t
  depths-read i o t =
      tag-more rules [] (bytes "inBitDepth") (depth_text i) (bytes " outBitDepth=\"" ++ (depth_text o ++ (bytes "\"" ++ t))) in-name (depth-quoted i) in-new (in-fine i)
      ∙ tag-more rules (record { name = bytes "inBitDepth"; text = depth_text i } ∷ []) (bytes "outBitDepth") (depth_text o) t out_name (depth-quoted o) (out-new i) (out-fine o)

  -- an id that is allowed: none, or one more attribute
  id-read : (i o : Depth) (id t : List ℕ) → id_allowed id ≡ true → tag_from rules (with_depths i o []) (node_id_text id t) ≡ tag_from rules (with_depths i o (id_of id)) t
  unfolding node_id_text id_allowed
  id-read i o [] t h = refl
  id-read i o (b ∷ s) t h = tag-more rules (with_depths i o []) (bytes "id") (b ∷ s) t id-name (id-quoted most_node_id_bytes (b ∷ s) h) (id-new i o) (id-fine (b ∷ s) h)

  module _ (i o : Depth) (id : List ℕ) (h : id_allowed id ≡ true) where
    -- both, in front of anything
    front_read : (t : List ℕ) → tag_from rules [] (depths_text i o (node_id_text id t)) ≡ tag_from rules (with_depths i o (id_of id)) t
    front_read t = depths-read i o (node_id_text id t) ∙ id-read i o id t h

    -- 'attributes in the order in, out', and the id 'after outBitDepth' (02, W-203)
    pub plain-tag : (t : List ℕ) → (start_tag rules).run (depths_text i o (node_id_text id (62 ∷ t))) ≡ done (record { attributes = with_depths i o (id_of id); empty = false }) t
    plain-tag t =
        tag-from rules (depths_text i o (node_id_text id (62 ∷ t)))
        ∙ front_read (62 ∷ t)
        ∙ tag-ends rules (with_depths i o (id_of id)) t (all_there i o (id_of id))

    -- '.. style', or a LUT3D's method
    pub last-tag : (w : List ℕ) → LastName rules w → (v t : List ℕ) → quoted v ≡ true → n.rest w v ≡ 0
        → (start_tag rules).run (depths_text i o (node_id_text id (last_text w v (62 ∷ t))))
        ≡ done (record { attributes = with_depths i o (id_of id ++ record { name = w; text = v } ∷ []); empty = false }) t
    last-tag w last v t k e =
        let l : List Attribute = id_of id ++ record { name = w; text = v } ∷ [] in
        tag-from rules (depths_text i o (node_id_text id (last_text w v (62 ∷ t))))
        ∙ front_read (last_text w v (62 ∷ t))
        ∙ tag-more rules (with_depths i o (id_of id)) w v (62 ∷ t) last.name k (last-new w last i o id) (last-fine w last v e)
        ∙ tag-ends rules (with_depths i o l) t (all_there i o l)
