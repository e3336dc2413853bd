-- Laws of nodes: an id in a node's start tag; what stands between a node's tags, by its kind; a valid list's nodes, one after the other. Assumes nothing.
use Rattle.process_list.specs.declared.RangeStyle.{RangeStyle}
use Rattle.process_list.specs.declared.RangeEnd.{RangeEnd}
use Rattle.process_list.specs.declared.CdlStyle.{CdlStyle}
use Rattle.process_list.specs.declared.Interpolation.{Interpolation}
use mathlib.Core.Path.{◌≡◌, refl, sym, ap, ◌∙◌}
use mathlib.Core.Bool.{Bool, true, false}
use mathlib.Core.List.{List, [], ◌∷◌, ◌++◌}
use Prim.Native.Nat.{ℕ, zero, suc, ◌+◌, ◌*◌, ◌≤◌, ◌<◌}
use native.Mathlib.Omega.{arith}
use native.Mathlib.Numerals.{add-one}
use lib.ListN.{length, take, drop, get_or, drop_of_length-le, length-take}
use lib.Seq.{drop-cons, get_or-take}
use Rattle.process_list.specs.declared.Kind.{Kind}
use Rattle.process_list.specs.declared.Kind.TheVariants.{Matrix, Lut1d, Range, Cdl, Lut3d, OneEnd}
use Rattle.process_list.specs.declared.Node.{Node}
use Rattle.process_list.specs.declared.ProcessList.{ProcessList}
use Rattle.process_list.specs.List.{cube_numbers, numbers_of, nodes_of, node_at, blank_node, Held}
use Rattle.process_list.proofs.Maps.{getD-within}
use Rattle.room.specs.Room.{Room, room_length}
use Rattle.valid.specs.Valid.{every, sound, is_valid, numbers_at, element_of, elements_of}
use Rattle.valid.proofs.Laws.{elements-at, elements-length}
use Rattle.valid.proofs.Elements.{both_true, sound-inside}
use Rattle.xml.specs.Bytes.{bytes}
use Rattle.written_form.proofs.Tail.{table_text, cube_text, range_text, one_end_text, sop_text, sat_text, content_text, node_id_text, node_text, nodes_text}
use Rattle.written_form.proofs.Short.{valid-sound}

-- ---- the id of a node, none or some
pub id-none : (s : List ℕ) → length s ≡ 0 → (t : List ℕ) → node_id_text s t ≡ t
unfolding node_id_text
id-none [] h t = refl
id-none (b ∷ s) h t = absurd (omega arith)

-- w are the id's bytes, as the code has them
pub id-some : (s w : List ℕ) → 1 ≤ length s → w ≡ s → (t : List ℕ) → node_id_text s t ≡ bytes " id=\"" ++ (w ++ (bytes "\"" ++ t))
unfolding node_id_text
id-some [] w h e t = absurd (omega arith)
id-some (b ∷ s) w h e t = rw e

-- ---- a node of each kind, and where its numbers stand
module _ (kind : Kind) (wide : Bool) (e : kind ≡ Matrix wide) where
  pub wide-asks : (from n : ℕ) → wide ≡ true → from + numbers_of kind ≤ n → from + 12 ≤ n
  unfolding numbers_of
  wide-asks from n w h = rw (e, w) at h

  pub narrow-asks : (from n : ℕ) → wide ≡ false → from + numbers_of kind ≤ n → from + 9 ≤ n
  unfolding numbers_of
  narrow-asks from n w h = rw (e, w) at h

  pub wide-text : (m : Room) (from : ℕ) → wide ≡ true → (t : List ℕ) → content_text kind (numbers_at m from (numbers_of kind)) t ≡ table_text 3 4 (numbers_at m from 12) t
  unfolding numbers_of content_text
  wide-text m from w t = simp (e, w)

  pub narrow-text : (m : Room) (from : ℕ) → wide ≡ false → (t : List ℕ) → content_text kind (numbers_at m from (numbers_of kind)) t ≡ table_text 3 3 (numbers_at m from 9) t
  unfolding numbers_of content_text
  narrow-text m from w t = simp (e, w)

module _ (kind : Kind) (entries columns : ℕ) (e : kind ≡ Lut1d entries columns) where
  pub table-asks : (from n : ℕ) → from + numbers_of kind ≤ n → from + entries * columns ≤ n
  unfolding numbers_of
  table-asks from n h = rw e at h

  pub table-text : (m : Room) (from : ℕ) (t : List ℕ) → content_text kind (numbers_at m from (numbers_of kind)) t ≡ table_text entries columns (numbers_at m from (entries * columns)) t
  unfolding numbers_of content_text
  table-text m from t = rw e

module _ (kind : Kind) (style : RangeStyle) (e : kind ≡ Range style) where
  pub range-asks : (from n : ℕ) → from + numbers_of kind ≤ n → from + 4 ≤ n
  unfolding numbers_of
  range-asks from n h = rw e at h

  pub range-text : (m : Room) (from : ℕ) (t : List ℕ) → content_text kind (numbers_at m from (numbers_of kind)) t ≡ range_text (numbers_at m from 4) t
  unfolding numbers_of content_text
  range-text m from t = rw e

module _ (kind : Kind) (style : CdlStyle) (e : kind ≡ Cdl style) where
  pub cdl-asks : (from n : ℕ) → from + numbers_of kind ≤ n → from + 10 ≤ n
  unfolding numbers_of
  cdl-asks from n h = rw e at h

  pub cdl-text : (m : Room) (from : ℕ) (t : List ℕ) → content_text kind (numbers_at m from (numbers_of kind)) t ≡ sop_text (numbers_at m from 10) (sat_text (numbers_at m from 10) t)
  unfolding numbers_of content_text
  cdl-text m from t = rw e

module _ (kind : Kind) (points : ℕ) (interpolation : Interpolation) (e : kind ≡ Lut3d points interpolation) where
  pub cube-asks : (from n : ℕ) → from + numbers_of kind ≤ n → from + cube_numbers points ≤ n
  unfolding numbers_of
  cube-asks from n h = rw e at h

  pub cube-text : (m : Room) (from : ℕ) (t : List ℕ) → content_text kind (numbers_at m from (numbers_of kind)) t ≡ cube_text points (numbers_at m from (cube_numbers points)) t
  unfolding numbers_of content_text
  cube-text m from t = rw e

module _ (kind : Kind) (end : RangeEnd) (e : kind ≡ OneEnd end) where
  pub one-end-asks : (from n : ℕ) → from + numbers_of kind ≤ n → from + 2 ≤ n
  unfolding numbers_of
  one-end-asks from n h = rw e at h

  pub one-end-text : (m : Room) (from : ℕ) (t : List ℕ) → content_text kind (numbers_at m from (numbers_of kind)) t ≡ one_end_text end (numbers_at m from 2) t
  unfolding numbers_of content_text
  one-end-text m from t = rw e

-- ---- the nodes of a valid list
every-at : {A : Type 0} (p : A → Bool) (xs : List A) (k : ℕ) (d : A) → every p xs ≡ true → k < length xs → p (get_or xs k d) ≡ true
unfolding every
every-at p [] k d h j = absurd (omega arith)
every-at p (x ∷ xs) zero d h j = (both_true (p x) (every p xs) h).0
every-at p (x ∷ xs) (suc k) d h j = every-at p xs k d (both_true (p x) (every p xs) h).1 (omega arith)

-- the loop's item of index k, read from the first n nodes with whatever default, is the list's node
pub item-is : (l : ProcessList) (n k : ℕ) (d : Node) → Held l n → k < length (take n l.nodes) → get_or (take n l.nodes) k d ≡ node_at l k
unfolding node_at nodes_of
item-is l n k d h j =
    let i : k < n × k < length l.nodes = omega (arith, length-take n l.nodes) in
    let c : k < l.count = omega (arith, h.within) in
    get_or-take _ _ _ _ i.0 ∙ getD-within l.nodes k d blank_node i.1 ∙ sym (get_or-take _ _ _ _ c)

-- the loop goes over all nodes of the list
pub items-length : (l : ProcessList) (n : ℕ) → Held l n → length (take n l.nodes) ≡ length (nodes_of l)
unfolding nodes_of
items-length l n h = omega (arith, h.nodes, length-take n l.nodes, length-take l.count l.nodes)

module _ (m : Room) where
  module _ (l : ProcessList) where
    -- and so do those of a valid list's nodes
    node-inside : is_valid l m ≡ true → (k : ℕ) → k < length (nodes_of l) → (node_at l k).at + numbers_of (node_at l k).kind ≤ room_length m
    node-inside v k h =
        sound-inside m (node_at l k)
        (ap sound (sym (elements-at l m k)) ∙ every-at sound (elements_of l m) k (element_of m blank_node) (valid-sound l m v) (omega (arith, elements-length l m)))

    pub node-asks : is_valid l m ≡ true → (k : ℕ) → k < length (nodes_of l) → (n : Node) → n ≡ node_at l k → n.at + numbers_of n.kind ≤ room_length m
    node-asks v k h n e = rw e (node-inside v k h)

    pub nodes-next : (k : ℕ) → k < length (nodes_of l) → (n : Node) → n ≡ node_at l k → (t : List ℕ)
        → nodes_text (drop k (elements_of l m)) t ≡ node_text (element_of m n) (nodes_text (drop (k + 1) (elements_of l m)) t)
    unfolding nodes_text
    nodes-next k h n e t =
        let j : k < length (elements_of l m) = omega (arith, elements-length l m) in
        rw (e, add-one, drop-cons (elements_of l m) k (element_of m blank_node) j, elements-at l m k)

    pub nodes-last : (k : ℕ) → length (nodes_of l) ≤ k → (t : List ℕ) → nodes_text (drop k (elements_of l m)) t ≡ t
    unfolding nodes_text
    nodes-last k h t =
        let j : length (elements_of l m) ≤ k = omega (arith, elements-length l m) in
        rw (drop_of_length-le (elements_of l m) j)
