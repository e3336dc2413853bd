-- An Array, the children of a node that holds one, and the node, by their parts. Assumes nothing.
use mathlib.Core.Path.{◌≡◌, refl, sym, ap, ◌∙◌, subst}
use mathlib.Core.Bool.{Bool, true, false, cond, ◌||◌}
use mathlib.Core.List.{List, []}
use mathlib.Core.Option.{Option, none, some}
use Prim.Native.Nat.{ℕ, ◌+◌, ◌≤◌}
use native.Mathlib.Omega.{arith}
use native.Mathlib.Nat.{add-zero}
use lib.ListN.{length}
use Rattle.decimal.specs.declared.Decimal.{Decimal}
use Rattle.grammar.specs.Parse.{Parser, bind_p, ret_p}
use Rattle.grammar.specs.Laws.{nope}
use Rattle.process_list.specs.declared.Kind.{Kind}
use Rattle.process_list.specs.declared.Kind.TheVariants.{Matrix}
use Rattle.process_list.specs.List.{Element, numbers_of, capped}
use Rattle.xml.specs.Bytes.{same, bytes}
use Rattle.xml.specs.Xml.{Tag, text_of, start_tag, end_tag}
use Rattle.xml.specs.Elements.{held, text_element}
use Rattle.xml.specs.Code.{Reads, no_value}
use Rattle.xml.specs.Code.{Scan}
use Rattle.std.specs.Prelude.{Ok, Err}
use Rattle.std.specs.Prelude as Std
use Rattle.xml.specs.declared.Stop.{Stop}
use Rattle.xml.specs.declared.Stop.TheVariants.{Fault}
use Rattle.markup.specs.Next.{Behind}
use Rattle.markup.specs.declared.Item.TheVariants as Items
use Rattle.tags.specs.Code.{part_in, attributes_of}
use Rattle.tags.specs.declared.Attributes.{Attributes}
use Rattle.values.specs.Code.{Laid, NumbersRead}
use Rattle.clf.specs.Numbers.{numbers, any_number}
use Rattle.clf.specs.Nodes.{is_some, array_rules, array_of, array, ArrayState, no_array, table_node, node_rules, matrix, lut1d, lut3d, Table}
use Rattle.node_parts.specs.Code.{NumbersIn, finished_node}
use Rattle.node_parts.specs.Held.{Goes, HeldAt, ReadsTo, SameCleared, NodeIs}
use Rattle.room.specs.Room.{Room, cleared_from}
use Rattle.values.proofs.Stored.{laid-none-yet, laid_then, cleared-laid, cleared-twice}
use Rattle.node_parts.proofs.Held.{went-both, end-lacks, child-refused, child-body, held-end}
use Rattle.node_parts.proofs.Reading.{no_tag, to_map, to-then, to-failed, to_part, numbers-to, text-to, finished-is}
use Rattle.array_node.specs.Code.{node_for, shape_of, name_of, names_of, texts_of, kind_by, holder_of, table_of, TableIn, ArrayStands}
use Rattle.array_node.proofs.Shapes.{kind-numbers}
use Rattle.array_node.specs.declared.TableKind.{TableKind}
use Rattle.array_node.specs.declared.TableNode.{TableNode}
use Rattle.array_node.specs.declared.TableNode.TheVariants as Named

-- ---- an Array

-- its start tag is at fault, or cut short
pub array-failed : (shape : List ℕ → Option Kind) (s : List ℕ) (at base : ℕ) (m : Room) (R : Table → Type 0) (x : Stop)
    → Reads 1 (start_tag (array_rules shape)).run no_tag s at (Err x) → ReadsTo (array shape).run s at (Err x) R (SameCleared base m m)
unfolding array
array-failed shape s at base m R x v =
    to-failed (start_tag (array_rules shape)).run s at R (SameCleared base m m) (λ t. (array_of (shape (text_of (bytes "dim") t.attributes))).run) no_tag (Err x) tt (Matrix false, []) refl v

module _ (shape : List ℕ → Option Kind) (s : List ℕ) (at base : ℕ) (tag : Tag) where
  abbrev rest : Tag → Parser Table
  rest t = (array_of (shape (text_of (bytes "dim") t.attributes))).run

  abbrev opening : Parser Tag
  opening = (start_tag (array_rules shape)).run

  module _ (q : ℕ) (v : Reads 1 opening (λ e. tag) s at (Ok q)) where
    pub array-other : (m : Room) (R : Table → Type 0) → none ≡ shape (text_of (bytes "dim") tag.attributes) → ReadsTo (array shape).run s at (Err (Fault 8 q)) R (SameCleared base m m)
    unfolding array
    array-other m R e =
        to-then opening s at R (SameCleared base m m) rest (λ e. tag) q (Err (Fault 8 q)) v
        (subst (λ (o : Option Kind). ReadsTo (array_of o).run s q (Err (Fault 8 q)) R (SameCleared base m m)) e
        (record { value = (Matrix false, []); reads = record { out = refl; inside = (omega arith, v.inside.1) }; left = refl }))

    array-some : (m₀ m₁ : Room) (kind : Kind) (n : ℕ) (r : Scan) (R : Table → Type 0) → ((t : Table) → TableIn base m₀ m₁ kind t → R t)
        → some kind ≡ shape (text_of (bytes "dim") tag.attributes) → n ≡ numbers_of kind
        → NumbersRead n (numbers (bytes "Array") n any_number).run s q base r m₀ m₁
        → ReadsTo (array shape).run s at r R (SameCleared base m₀ m₁)
    unfolding array
    array-some m₀ m₁ kind n r R f e i w =
        to-then opening s at R (SameCleared base m₀ m₁) rest (λ e. tag) q r v
        (subst (λ (o : Option Kind). ReadsTo (array_of o).run s q r R (SameCleared base m₀ m₁)) e
        (to_map (numbers (bytes "Array") (numbers_of kind) any_number).run s q R (SameCleared base m₀ m₁)
        (λ l. (kind, l)) r (NumbersIn (numbers_of kind) base m₀ m₁) (λ l g. f (kind, l) (record { kinds = refl; all = g.counted; room = g.room }))
        (to_part (numbers (bytes "Array") (numbers_of kind) any_number).run s q r (NumbersIn (numbers_of kind) base m₀ m₁) (m₁ ≡ cleared_from base m₀) (SameCleared base m₀ m₁)
        (cleared-twice base m₀ m₁) (numbers-to (numbers (bytes "Array") (numbers_of kind) any_number).run s q (numbers_of kind) base m₀ m₁ r (rw i at w)))))

-- of the numbers as the code counts them
pub array-counted : (table : TableKind) (s : List ℕ) (at base : ℕ) (tag : Tag) (q : ℕ) → Reads 1 (start_tag (array_rules (shape_of table))).run (λ e. tag) s at (Ok q)
    → (m₀ m₁ : Room) (kind : Kind) (n : ℕ) (r : Scan) (R : Table → Type 0) → ((t : Table) → TableIn base m₀ m₁ kind t → R t)
    → some kind ≡ shape_of table (text_of (bytes "dim") tag.attributes) → n ≡ capped (numbers_of kind)
    → NumbersRead n (numbers (bytes "Array") n any_number).run s q base r m₀ m₁
    → ReadsTo (array (shape_of table)).run s at r R (SameCleared base m₀ m₁)
array-counted table s at base tag q v m₀ m₁ kind n r R f e i w =
    array-some (shape_of table) s at base tag q v m₀ m₁ kind n r R f e (i ∙ kind-numbers table (text_of (bytes "dim") tag.attributes) kind e) w

-- ---- children

table-there : (o : Std.Option Kind) (xs : List Decimal) → is_some (table_of o xs) ≡ Std.is_some o
table-there Std.None xs = refl
table-there (Std.Some k) xs = refl

module _ (table : TableKind) (s : List ℕ) (at e base : ℕ) (w : List ℕ) (n : w ≡ part_in s (at + 1) e) (l : at + 2 ≤ e) (k : e ≤ length s)
    (m₀ m : Room) (found : Std.Option Kind) (st : ArrayState) (v : ArrayStands base m₀ m found st) (R : ArrayState → Type 0) where
  abbrev judged : Bool → Bool → Bool → ℕ
  judged x y z = cond x 5 (cond (y || z) 0 5)

  blame : (x y z : Bool) → Std.is_some found ≡ x → same w (bytes "Array") ≡ y → same w (bytes "Description") ≡ z → (holder_of table).fault st w ≡ judged x y z
  blame x y z qx qy qz =
      ap (λ (b : Bool). judged b (same w (bytes "Array")) (same w (bytes "Description"))) (ap is_some v.table ∙ table-there found v.xs ∙ qx)
      ∙ ap (λ (b : Bool). judged x b (same w (bytes "Description"))) qy ∙ ap (λ (b : Bool). judged x y b) qz

  kept : SameCleared base m₀ m
  kept = cleared-laid base v.xs m₀ m v.room

  -- behind the Array
  pub child-behind : Std.is_some found ≡ true → Goes (holder_of table) st s at e (Err (Fault 5 at)) R (SameCleared base m₀ m)
  child-behind q =
      child-refused (holder_of table) st s at e w n l k R (SameCleared base m₀ m) 5
      (blame true (same w (bytes "Array")) (same w (bytes "Description")) q refl refl) (λ z. omega arith) kept

  module _ (q : Std.is_some found ≡ false) where
    -- no child of it
    pub child-other : same w (bytes "Array") ≡ false → same w (bytes "Description") ≡ false → Goes (holder_of table) st s at e (Err (Fault 5 at)) R (SameCleared base m₀ m)
    child-other qa qd =
        child-refused (holder_of table) st s at e w n l k R (SameCleared base m₀ m) 5 (blame false false false q qa qd) (λ z. omega arith) kept

    -- the Array, of which Q holds
    pub child-array : (m₁ : Room) (r : Scan) (Q : Table → Type 0) → ((t : Table) → Q t → R (record { table = some t })) → same w (bytes "Array") ≡ true
        → ReadsTo (array (shape_of table)).run s e r Q (SameCleared base m m₁) → Goes (holder_of table) st s at e r R (SameCleared base m₀ m₁)
    child-array m₁ r Q g qa h =
        child-body (holder_of table) st s at e w n l k R (SameCleared base m₀ m₁) r (blame false true (same w (bytes "Description")) q qa refl)
        (rw qa
        (to_map (array (shape_of table)).run s e R (SameCleared base m₀ m₁) (λ x. record { table = some x }) r Q g
        (to_part (array (shape_of table)).run s e r Q (SameCleared base m m₁) (SameCleared base m₀ m₁) (λ y. y ∙ kept) h)))

    -- a Description
    pub child-text : (r : Scan) → R st → same w (bytes "Array") ≡ false → same w (bytes "Description") ≡ true → Reads 1 (text_element w).run no_value s e r
        → Goes (holder_of table) st s at e r R (SameCleared base m₀ m)
    child-text r g qa qd h =
        child-body (holder_of table) st s at e w n l k R (SameCleared base m₀ m) r (blame false false true q qa qd)
        (rw qa
        (to_map (text_element w).run s e R (SameCleared base m₀ m) (λ x. st) r (λ x. Unit {0}) (λ x y. g)
        (text-to (text_element w).run s e r (SameCleared base m₀ m) kept h)))

-- what is laid with the first Array is all that is laid
pub array-found : (base : ℕ) (m₀ m m₁ : Room) (found : Std.Option Kind) (st : ArrayState) → ArrayStands base m₀ m found st → Std.is_some found ≡ false
    → (kind : Kind) (t : Table) → TableIn base m m₁ kind t → ArrayStands base m₀ m₁ (Std.Some kind) (record { table = some t })
array-found base m₀ m m₁ (Std.Some x) st v q kind t h = nope cc
array-found base m₀ m m₁ Std.None st v q kind t h =
    let j : Laid base [] m₀ m = rw v.all at v.room in
    record {
      xs = t.1;
      table = ap (λ (y : Kind). some (y, t.1)) h.kinds;
      all = h.all;
      room = laid_then base [] t.1 m₀ m m₁ j (rw add-zero h.room);
    }

-- ---- the content

pub array-start : (base : ℕ) (m : Room) → ArrayStands base m m Std.None no_array
array-start base m = record { xs = []; table = refl; all = refl; room = laid-none-yet base m }

module _ (table : TableKind) (s : List ℕ) (at i base : ℕ) (m₀ m : Room) (found : Std.Option Kind)
    (v : HeldAt (holder_of table) no_array s at i (ArrayStands base m₀ m found)) where
  -- what holds where the content stops
  pub content-kept : SameCleared base m₀ m
  content-kept = cleared-laid base v.stands.xs m₀ m v.stands.room

  -- the end tag
  module _ (j : ℕ) (missing : ℕ) (q : missing ≡ cond (Std.is_some found) 0 5) where
    lacking : (st : ArrayState) → ArrayStands base m₀ m found st → (holder_of table).missing st ≡ missing
    lacking st z = ap (λ (b : Bool). cond b 0 5) (ap is_some z.table ∙ table-there found z.xs) ∙ sym q

    -- an Array was there
    pub content-whole : (e : ℕ) → Reads 1 (end_tag (name_of table) missing).run no_value s j (Ok e) → Std.is_some found ≡ true
    content-whole e w = go (Std.is_some found) refl
      where
        go : (f : Bool) → Std.is_some found ≡ f → Std.is_some found ≡ true
        go true x = x
        go false x =
            let y : missing ≡ 5 = q ∙ ap (λ (b : Bool). cond b 0 5) x in
            absurd (end-lacks (name_of table) missing 1 s j e (λ n. omega arith) w)

    pub content-end : (r : Scan) (R : ArrayState → Type 0) → ((st : ArrayState) → ArrayStands base m₀ m found st → R st) → Behind s i (Ok Items.EndTag) j
        → Reads 1 (end_tag (name_of table) missing).run no_value s j r → ReadsTo (held (holder_of table) no_array).run s at r R (SameCleared base m₀ m)
    content-end r R g l w =
        held-end (holder_of table) no_array s at i (ArrayStands base m₀ m found) v R (SameCleared base m₀ m) j r l
        (λ st z. (rw (lacking st z) w, went-both r (R st) (SameCleared base m₀ m) (g st z) content-kept))

-- ---- the node

module _ (named : TableNode) (s : List ℕ) (at base : ℕ) where
  abbrev opens : Parser Tag
  opens = (start_tag (node_rules (names_of named) (texts_of named))).run

  abbrev content-by : Tag → Parser ArrayState
  content-by t = (held (holder_of (kind_by named t.attributes)) no_array).run

  abbrev rest_of : Tag → Parser Element
  rest_of t = bind_p (content-by t) (λ st. ret_p (table_node t.attributes st))

  by_name : (r : Scan) (R : Element → Type 0) (F : Type 0) → ReadsTo (bind_p opens rest_of) s at r R F → ReadsTo (node_for named).run s at r R F
  unfolding lut1d matrix lut3d
  by_name r R F v = go named v
    where
      go : (b : TableNode)
          → ReadsTo (bind_p (start_tag (node_rules (names_of b) (texts_of b))).run (λ t.
          bind_p (held (holder_of (kind_by b t.attributes)) no_array).run (λ st. ret_p (table_node t.attributes st)))) s at r R F
          → ReadsTo (node_for b).run s at r R F
      go Named.Matrix v = v
      go Named.Lut1d v = v
      go Named.Lut3d v = v

  -- the start tag is at fault
  pub table-failed : (m : Room) (R : Element → Type 0) (x : Stop) → Reads 1 opens no_tag s at (Err x) → ReadsTo (node_for named).run s at (Err x) R (SameCleared base m m)
  table-failed m R x v = by_name (Err x) R (SameCleared base m m) (to-failed opens s at R (SameCleared base m m) rest_of no_tag (Err x) tt (table_node [] no_array) refl v)

  -- behind it the content is read, of which Q holds
  pub table-node : (tag : Tag) (m₀ m₁ : Room) (q : ℕ) (r : Scan) (Q : ArrayState → Type 0) (R : Element → Type 0)
      → ((st : ArrayState) → Q st → R (table_node tag.attributes st)) → Reads 1 opens (λ e. tag) s at (Ok q)
      → ReadsTo (content-by tag) s q r Q (SameCleared base m₀ m₁) → ReadsTo (node_for named).run s at r R (SameCleared base m₀ m₁)
  table-node tag m₀ m₁ q r Q R g v w =
      by_name r R (SameCleared base m₀ m₁)
      (to-then opens s at R (SameCleared base m₀ m₁) rest_of (λ e. tag) q r v
      (to_map (content-by tag) s q R (SameCleared base m₀ m₁) (λ st. table_node tag.attributes st) r Q g w))

-- the node that is finished
pub table-is : (s : List ℕ) (base : ℕ) (m₀ m₁ : Room) (attributes : Attributes) (e : ℕ) (kind : Kind) (st : ArrayState) → ArrayStands base m₀ m₁ (Std.Some kind) st
    → NodeIs base m₀ m₁ (record { end = e; node = finished_node s attributes kind }) (table_node (attributes_of s attributes) st)
table-is s base m₀ m₁ attributes e kind st w =
    subst (λ (t : Option Table). NodeIs base m₀ m₁ (record { end = e; node = finished_node s attributes kind }) (table_node (attributes_of s attributes) (record { table = t }))) (sym w.table)
    (finished-is s base m₀ m₁ attributes e kind w.xs w.all w.room)
