-- A child of ProcessList, by what its parts answered. Assumes nothing.
use Rattle.process_list.specs.List.{Element, all_numbers}
use Rattle.process_list.specs.List as Lists
use mathlib.Core.Path.{◌≡◌, refl, sym, ap, ◌∙◌, subst}
use mathlib.Core.Bool.{Bool, true, false, cond}
use mathlib.Core.List.{List, []}
use Prim.Native.Nat.{ℕ}
use native.Mathlib.Omega.{arith}
use lib.ListN.{drop}
use Rattle.grammar.specs.Parse.{Out, Parser, bind_p, then_out, ret_p}
use Rattle.grammar.specs.Grammar.{G, ret, seq, ◌>>◌}
use Rattle.xml.specs.Bytes.{bytes, same}
use Rattle.xml.specs.Code.{Scan}
use Rattle.std.specs.Prelude.{Result, Ok, Err}
use Rattle.xml.specs.declared.Stop.{Stop}
use Rattle.xml.specs.declared.Stop.TheVariants as Stops
use Rattle.xml.specs.Code.{scan_out, Inside, Reads, no_value}
use Rattle.xml.specs.CodeLaws.{reads-ret}
use Rattle.xml.specs.Elements.{text_element, info}
use Rattle.decimal.specs.declared.Decimal.{Decimal}
use Rattle.room.specs.Room.{Room, laid_in}
use Rattle.room.proofs.Rooms.{RoomFrom, from-refl, from-cleared, from-laid, laid-nothing}
use Rattle.values.specs.Code.{room_after}
use Rattle.node_parts.specs.declared.NodeRead.{NodeRead}
use Rattle.node_parts.specs.Code.{end_of, NodeOf, NodeReads, AllNumbers}
use Rattle.nodes.specs.declared.CarriedNode.{CarriedNode}
use Rattle.nodes.proofs.Carried.{carried-well}
use Rattle.nodes.specs.declared.NodeName.{NodeName}
use Rattle.nodes.specs.Code.{carried_of, name_of}
use Rattle.clf.specs.Nodes.{node_name, node_body, node_fault}
use Rattle.clf.specs.Nodes as Names
use Rattle.clf.specs.List.{Child, node, description, input_descriptor, output_descriptor, info_child, Flags, child_fault, child_body}
use Rattle.clf.specs.Reading.{with_child}
use Rattle.file_text.specs.declared.Progress.{Progress}
use Rattle.file_text.specs.declared.FoundChild.{FoundChild}
use Rattle.file_text.specs.declared.FoundChild.TheVariants as Found
use Rattle.file_text.specs.declared.ChildRead.{ChildRead}
use Rattle.file_text.specs.Code.{flags_of, Counted, ChildLeaves, ChildReads, refused, read, found_child, child_end, child_by, node_by, once_child, CarriedReads, NodeChild, carried, other}
use Rattle.file_text.proofs.Nodes.{numbers-one, counted-one, counted_none}

-- ---- children that are not nodes

-- they change no room
nothing-laid : (u : ℕ) (m : Room) → m ≡ laid_in u (all_numbers []) m
unfolding all_numbers
nothing-laid u m = sym (laid-nothing u m)

leaves-room : (used : ℕ) (c : Child) (r : Scan) (m : Room) → with_child c [] ≡ [] → ChildLeaves used c (child_by r (found_child c)) m m
leaves-room used c (Ok e) m q = (
  refl,
  subst (λ (l : List Element). Counted l) (sym q) counted_none,
  subst (λ (l : List Element). m ≡ laid_in used (all_numbers l) m) (sym q) (nothing-laid used m),
)
leaves-room used c (Err x) m q = from-refl used m

-- the place behind a child that reads so
by-end : (r : Scan) (c : FoundChild) → child_end (child_by r c) ≡ r
by-end (Ok i) c = refl
by-end (Err x) c = refl

-- ---- a child by the tests of its name

abbrev pick_fault : Bool → Bool → Bool → Bool → Flags → Names.NodeName → ℕ
pick_fault d i o f st n = cond d 0 (cond i (cond st.input 5 0) (cond o (cond st.output 5 0) (cond f (cond st.info 5 0) (node_fault n))))

abbrev pick_body : Bool → Bool → Bool → Bool → List ℕ → Names.NodeName → G Child
pick_body d i o f w n =
    cond d (text_element w >> ret description)
    (cond i (text_element w >> ret input_descriptor)
    (cond o (text_element w >> ret output_descriptor)
    (cond f (info >> ret info_child)
    (seq (node_body n) (λ m. ret (node m))))))

abbrev is_d : List ℕ → Bool
is_d w = same w (bytes "Description")

abbrev is_i : List ℕ → Bool
is_i w = same w (bytes "InputDescriptor")

abbrev is_o : List ℕ → Bool
is_o w = same w (bytes "OutputDescriptor")

abbrev is_f : List ℕ → Bool
is_f w = same w (bytes "Info")

module _ (w : List ℕ) (d i o f : Bool) (qd : is_d w ≡ d) (qi : is_i w ≡ i) (qo : is_o w ≡ o) (qf : is_f w ≡ f) where
  fault-by : (st : Flags) → child_fault st w ≡ pick_fault d i o f st (node_name w)
  unfolding child_fault
  fault-by st =
      ap (λ (x : Bool). pick_fault x (is_i w) (is_o w) (is_f w) st (node_name w)) qd ∙ ap (λ (x : Bool). pick_fault d x (is_o w) (is_f w) st (node_name w)) qi
      ∙ ap (λ (x : Bool). pick_fault d i x (is_f w) st (node_name w)) qo ∙ ap (λ (x : Bool). pick_fault d i o x st (node_name w)) qf

  body-by : (u : List ℕ) → (child_body w).run u ≡ (pick_body d i o f w (node_name w)).run u
  unfolding child_body
  body-by u =
      ap (λ (x : Bool). (pick_body x (is_i w) (is_o w) (is_f w) w (node_name w)).run u) qd ∙ ap (λ (x : Bool). (pick_body d x (is_o w) (is_f w) w (node_name w)).run u) qi
      ∙ ap (λ (x : Bool). (pick_body d i x (is_f w) w (node_name w)).run u) qo ∙ ap (λ (x : Bool). (pick_body d i o x w (node_name w)).run u) qf

module _ (s w : List ℕ) (at e : ℕ) (p : Progress) (m : Room) (r : Scan) where
  then-child : (b : Parser (Unit {0})) (c : Child) → Reads 1 b no_value s e r → scan_out (λ q. c) s r ≡ bind_p b (λ a. ret_p c) (drop e s)
  then-child b c h = (reads-ret b no_value c s e 1 r h).out

  -- one that may stand there
  whole : (k : Child) → child_fault (flags_of p) w ≡ 0 → scan_out (λ q. k) s r ≡ (child_body w).run (drop e s) → Inside 1 s e r
      → with_child k [] ≡ [] → ChildReads s w at e p (child_by r (found_child k)) m m
  whole k q z n y = let e₁ : child_end (child_by r (found_child k)) ≡ r = by-end r (found_child k) in read k q (ap (scan_out (λ x. k) s) e₁ ∙ z) (subst (λ (x : Scan). Inside 1 s e x) (sym e₁) n) (leaves-room p.used k r m y)

  pub child-description : is_d w ≡ true → Reads 1 (text_element w).run no_value s e r → ChildReads s w at e p (once_child at false r Found.Other) m m
  child-description t h =
      whole description (fault-by w true (is_i w) (is_o w) (is_f w) t refl refl refl (flags_of p))
      (then-child (text_element w).run description h ∙ sym (body-by w true (is_i w) (is_o w) (is_f w) t refl refl refl (drop e s)))
      h.inside refl

  -- one of those that may not repeat: the first, or another
  once : (k : Child) (b : Bool) → child_fault (flags_of p) w ≡ cond b 5 0 → scan_out (λ q. k) s r ≡ (child_body w).run (drop e s) → Inside 1 s e r
      → with_child k [] ≡ [] → ChildReads s w at e p (once_child at b r (found_child k)) m m
  once k true q z n y = refused 5 q (λ g. omega arith) refl refl
  once k false q z n y = whole k q z n y

  pub child-input : is_d w ≡ false → is_i w ≡ true → Reads 1 (text_element w).run no_value s e r → ChildReads s w at e p (once_child at p.input r Found.InputDescriptor) m m
  child-input d t h =
      once input_descriptor p.input (fault-by w false true (is_o w) (is_f w) d t refl refl (flags_of p))
      (then-child (text_element w).run input_descriptor h ∙ sym (body-by w false true (is_o w) (is_f w) d t refl refl (drop e s))) h.inside refl

  pub child-output : is_d w ≡ false → is_i w ≡ false → is_o w ≡ true → Reads 1 (text_element w).run no_value s e r → ChildReads s w at e p (once_child at p.output r Found.OutputDescriptor) m m
  child-output d i t h =
      once output_descriptor p.output (fault-by w false false true (is_f w) d i t refl (flags_of p))
      (then-child (text_element w).run output_descriptor h ∙ sym (body-by w false false true (is_f w) d i t refl (drop e s))) h.inside refl

  pub child-info : is_d w ≡ false → is_i w ≡ false → is_o w ≡ false → is_f w ≡ true → Reads 1 info.run no_value s e r → ChildReads s w at e p (once_child at p.info r Found.Info) m m
  child-info d i o t h =
      once info_child p.info (fault-by w false false false true d i o t (flags_of p))
      (then-child info.run info_child h ∙ sym (body-by w false false false true d i o t (drop e s))) h.inside refl

-- ---- nodes

node-value : (q : Parser Element) (v : Element) (s : List ℕ) (e : ℕ) (r : Scan) → scan_out (λ x. v) s r ≡ q (drop e s) → scan_out (λ x. node v) s r ≡ bind_p q (λ m. ret_p (node m)) (drop e s)
node-value q v s e (Ok i) z = ap (λ (o : Out Element). then_out o (λ m. ret_p (node m))) z
node-value q v s e (Err (Stops.Fault k i)) z = ap (λ (o : Out Element). then_out o (λ m. ret_p (node m))) z
node-value q v s e (Err Stops.Cut) z = ap (λ (o : Out Element). then_out o (λ m. ret_p (node m))) z

-- the place behind a node is that behind the child
node-end : (r : Result NodeRead Stop) → child_end (node_by r) ≡ end_of r
node-end (Ok n) = refl
node-end (Err x) = refl

-- what a node leaves, by its answer
node-leaves : (used : ℕ) (v : Element) (r : Result NodeRead Stop) (m₁ m₂ : Room) → NodeOf r v → AllNumbers (end_of r) v → m₂ ≡ room_after used (end_of r) v.numbers m₁
    → ChildLeaves used (node v) (node_by r) m₁ m₂
node-leaves used v (Ok n) m₁ m₂ q k z = (
  ap Found.Node q,
  counted-one v k,
  z ∙ ap (λ (xs : List Decimal). laid_in used xs m₁) (sym (numbers-one v)),
)
node-leaves used v (Err x) m₁ m₂ q k z = subst (λ (m : Room). RoomFrom used m₁ m) (sym z) (from-cleared used used m₁ (omega arith))

module _ (s w : List ℕ) (at e : ℕ) (p : Progress) (r : Result ChildRead Stop) (name : NodeName) (m₁ m₂ : Room)
    (d : is_d w ≡ false) (i : is_i w ≡ false) (o : is_o w ≡ false) (f : is_f w ≡ false) (nm : name_of name ≡ node_name w) where
  read-node : (n : CarriedNode) → node_name w ≡ carried_of n → CarriedReads s e n p.used r m₁ m₂ → ChildReads s w at e p r m₁ m₂
  read-node n q h =
      let v : NodeReads (node_body (carried_of n)).run s e p.used h.node m₁ m₂ = h.reads in
      subst (λ (x : Result ChildRead Stop). ChildReads s w at e p x m₁ m₂) (sym h.is)
      (read (node v.value) (fault-by w false false false false d i o f (flags_of p) ∙ ap node_fault q ∙ carried-well n)
      (ap (scan_out (λ x. node v.value) s) (node-end h.node) ∙ node-value (node_body (carried_of n)).run v.value s e (end_of h.node) v.out
      ∙ sym (body-by w false false false false d i o f (drop e s) ∙ ap (λ (x : Names.NodeName). bind_p (node_body x).run (λ m. ret_p (node m)) (drop e s)) q))
      (subst (λ (x : Scan). Inside 1 s e x) (sym (node-end h.node)) v.inside) (node-leaves p.used v.value h.node m₁ m₂ v.node v.all v.room))

  pub child-node : NodeChild s at e name p.used r m₁ m₂ → ChildReads s w at e p r m₁ m₂
  child-node (carried n q h) = read-node n (sym nm ∙ q) h
  child-node (other k q z x y) = refused k (fault-by w false false false false d i o f (flags_of p) ∙ ap node_fault (sym nm) ∙ q) z x y

-- ---- the slices keep their lengths

roomed : (base : ℕ) (r : Scan) (xs : List Decimal) (m₁ m₂ : Room) → m₂ ≡ room_after base r xs m₁ → RoomFrom base m₁ m₂
roomed base (Ok e) xs m₁ m₂ z = subst (λ (m : Room). RoomFrom base m₁ m) (sym z) (from-laid base base xs m₁ (omega arith))
roomed base (Err x) xs m₁ m₂ z = subst (λ (m : Room). RoomFrom base m₁ m) (sym z) (from-cleared base base m₁ (omega arith))

pub node-room : {p : Parser Element} {s : List ℕ} {e base : ℕ} {n : Result NodeRead Stop} {m₁ m₂ : Room} → NodeReads p s e base n m₁ m₂ → RoomFrom base m₁ m₂
node-room {base = base} {n = n} {m₁ = m₁} {m₂ = m₂} h = roomed base (end_of n) h.value.numbers m₁ m₂ h.room

pub carried-room : {s : List ℕ} {e : ℕ} {n : CarriedNode} {used : ℕ} {r : Result ChildRead Stop} {m₁ m₂ : Room} → CarriedReads s e n used r m₁ m₂ → RoomFrom used m₁ m₂
carried-room h = node-room h.reads

same_from : (base : ℕ) (m₁ m₂ : Room) → m₂ ≡ m₁ → RoomFrom base m₁ m₂
same_from base m₁ m₂ e = subst (λ (m : Room). RoomFrom base m₁ m) (sym e) (from-refl base m₁)

pub child-by-node : {s : List ℕ} {at e : ℕ} {name : NodeName} {used : ℕ} {r : Result ChildRead Stop} {m₁ m₂ : Room} → NodeChild s at e name used r m₁ m₂ → RoomFrom used m₁ m₂
child-by-node (carried n q h) = carried-room h
child-by-node {used = used} {m₁ = m₁} {m₂ = m₂} (other k q z x y) = same_from used m₁ m₂ y

leaves-from : (used : ℕ) (c : Child) (r : Result ChildRead Stop) (m₁ m₂ : Room) → ChildLeaves used c r m₁ m₂ → RoomFrom used m₁ m₂
leaves-from used c (Ok r) m₁ m₂ h = subst (λ (m : Room). RoomFrom used m₁ m) (sym h.2) (from-laid used used (all_numbers (with_child c [])) m₁ (omega arith))
leaves-from used c (Err x) m₁ m₂ h = h

pub child-room : (s w : List ℕ) (at e : ℕ) (p : Progress) (r : Result ChildRead Stop) (m₁ m₂ : Room) → ChildReads s w at e p r m₁ m₂ → RoomFrom p.used m₁ m₂
child-room s w at e p r m₁ m₂ (refused k f z y o) = same_from p.used m₁ m₂ o
child-room s w at e p r m₁ m₂ (read c f z b y) = leaves-from p.used c r m₁ m₂ y
