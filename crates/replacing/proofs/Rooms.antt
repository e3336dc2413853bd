-- The element in the place of node k: the verdict over the list, and list and room afterwards. Assumes nothing.
use mathlib.Core.Path.{◌≡◌, refl, sym, ap, ◌∙◌, subst}
use mathlib.Core.List.{List, [], map}
use Prim.Native.Nat.{ℕ, ◌+◌, ◌-◌, ◌≤◌, ◌<◌}
use native.Mathlib.Omega.{arith}
use native.Mathlib.Nat.{zero-add}
use lib.ListN.{length, take, set, get_or, length-set, get_or-map}
use lib.Seq.{get_or-set_same}
use Rattle.decimal.specs.declared.Decimal.{Decimal}
use Rattle.grammar.specs.Parse.{done}
use Rattle.grammar.specs.Laws.{nope}
use Rattle.process_list.specs.declared.Node.{Node}
use Rattle.process_list.specs.declared.ProcessList.{ProcessList}
use Rattle.ids.specs.Ids.{no_id}
use Rattle.process_list.specs.File.{file_node, file_list, kept_numbers, with_newest, keeping}
use Rattle.process_list.specs.List.{Verdict, blank_element, Element, most_nodes, numbers_of, node_of, unplaced, with_position, total, placed, all_numbers, blank_node, list_of, nodes_of, node_at, replaced_at, placed_list}
use Rattle.process_list.specs.List.{capped, judged, verdict, unfit_number, unfit_place}
use Rattle.process_list.specs.declared.Unfit.{Unfit}
use Rattle.process_list.proofs.Files.{list-split, file-nodes, file-judged, file-total, file-replaced, file-placed, kept-replaced, kept-placed}
use Rattle.process_list.proofs.Laws.{capped-exact, total-take, total-take-le}
use Rattle.process_list.proofs.Lists.{Fine, accepted-fine, heads-length, placed-length, list-nodes, place_at, total-place, replaced-verdict, replaced-list}
use Rattle.room.specs.Room.{Room, room_length, laid_in, filled_with, resized_in}
use Rattle.valid.specs.Valid as Valid
use Rattle.valid.proofs.Readings.{head-kind, stands_at, stands-kind}
use Rattle.valid.proofs.Readings as Readings
use Rattle.valid.proofs.Replacing.{replaced-in}
use Rattle.xml.specs.Code.{Scan}
use Rattle.std.specs.Prelude.{Result, Ok, Err}
use Rattle.xml.specs.declared.Stop.{Stop}
use Rattle.xml.specs.declared.Stop.TheVariants as Stops
use Rattle.xml.specs.Code.{scan_out}
use Rattle.node_parts.specs.declared.NodeRead.{NodeRead}
use Rattle.values.specs.Code.{room_after}
use Rattle.node_parts.specs.Code.{end_of, NodeReads}
use Rattle.reading.specs.Code.{refused_at}
use Rattle.look.specs.Replacing.{element, by_element, replacing_by, listed, plain_call, numbered_call}
use Rattle.look.specs.Replacing as Replacing
use Rattle.look.specs.Look.{Look, holding, call_in, look_after}
use Rattle.replacing.specs.Code.{replacing_answer, AnswersWith, look_of, ReplacedKeeping, made_way, Stores, Fits}
use Rattle.replacing.proofs.Calls.{leaves-refused, elements-length, by-element}

-- ---- nodes of elements

none-node : node_of blank_element ≡ blank_node
unfolding node_of blank_node no_id
none-node = refl

head_at : (es : List Element) (k : ℕ) → (get_or (map node_of es) k blank_node).kind ≡ (get_or es k blank_element).kind
head_at es k =
    ap (λ (d : Node). (get_or (map node_of es) k d).kind) (sym none-node) ∙ ap (λ (n : Node). n.kind) (get_or-map node_of es k blank_element) ∙ head-kind (get_or es k blank_element)

-- a node has no more numbers than all together
part-few : (es : List Element) (k : ℕ) → k < length es → numbers_of (get_or es k blank_element).kind ≤ total (map node_of es)
part-few es k h =
    let ns : List Node = map node_of es in
    let a = total-take ns k blank_node (rw heads-length h) in
    let b = total-take-le ns (k + 1) in
    rw (← head_at es k) (omega arith)

-- the room after an answer without fault
room-done : (e : List ℕ) (base : ℕ) (xs : List Decimal) (v w : Element) (y : Scan) (r : List ℕ) (m : Room) → scan_out (λ q. v) e y ≡ done w r → room_after base y xs m ≡ laid_in base xs m
room-done e base xs v w (Ok q) r m h = refl
room-done e base xs v w (Err (Stops.Fault k q)) r m h = nope cc
room-done e base xs v w (Err Stops.Cut) r m h = nope cc

-- the value of an answer without fault
value-is : (e : List ℕ) (v w : Element) (y : Scan) (r : List ℕ) → scan_out (λ q. v) e y ≡ done w r → v ≡ w
value-is e v w (Ok q) r h = cc
value-is e v w (Err (Stops.Fault k q)) r h = nope cc
value-is e v w (Err Stops.Cut) r h = nope cc

-- the node that is put keeps the number w
module _ (w : ℕ) (l : ProcessList) (m₀ : Room) (k : ℕ) (node : Node) (e : List ℕ) (f : Fits l m₀ k node e) where
  abbrev x : Look
  x = look_of l m₀

  abbrev room : ℕ
  room = room_length m₀

  abbrev es : List Element
  es = Valid.elements_of l m₀

  abbrev el : Element
  el = f.element.value

  abbrev i : ℕ
  i = k - 1

  abbrev next : ProcessList
  next = replaced_at l i (with_newest w node)

  abbrev new : List Element
  new = set es i el

  reading : Readings.Reading l m₀ es
  reading = Readings.parts l m₀ f.callable.on.array f.callable.on.valid

  fine : Fine room (map node_of es)
  unfolding verdict
  fine = accepted-fine room (map node_of es) reading.accepted

  few : length es ≤ most_nodes
  few = omega (arith, fine.few, heads-length es)

  inside : i < length es
  inside = omega (arith, f.callable.on.there.first, f.callable.on.there.last, elements-length l m₀)

  -- what a file says of the list with its new node
  file-next : file_list next ≡ replaced_at (list_of (placed es)) i (node_of el)
  unfolding node_of unplaced
  file-next =
      file-replaced l i (with_newest w node) ∙ ap (λ (a : ProcessList). replaced_at a i (file_node node)) reading.list ∙ ap (λ (a : Node). replaced_at (list_of (placed es)) i (file_node a)) f.element.is

  verdict-is : judged room (nodes_of next) ≡ verdict room new
  verdict-is =
      sym (file-judged room (nodes_of next)) ∙ ap (judged room) (sym (file-nodes next)) ∙ ap (λ (a : ProcessList). judged room (nodes_of a)) file-next
      ∙ replaced-verdict es i el few inside room

  -- what the call answers: 10, 23 or 13, or the new element is in its place
  answer-is : call_in x (plain_call k e) ≡ replacing_by new (verdict room new)
  unfolding listed
  answer-is = by-element l m₀ k e f.callable ∙ ap (by_element room es k e) f.element.out

  pub node-refused : (why : Unfit) → Err why ≡ judged room (nodes_of next) → ReplacedKeeping w l m₀ k e (refused_at (unfit_number why) (unfit_place why)) l m₀
  node-refused why q =
      leaves-refused l m₀ (numbered_call k w e) (call_in x (plain_call k e)) (unfit_number why) (unfit_place why) (answer-is ∙ ap (replacing_by new) (sym (q ∙ verdict-is)))

  -- ---- accepted

  module _ (a : verdict room new ≡ Ok tt) where
    fine-new : Fine room (map node_of new)
    unfolding verdict
    fine-new = accepted-fine room (map node_of new) a

    -- the list: the new elements, and of the kept numbers node k's is w
    list-is : placed_list next ≡ keeping (set (kept_numbers l) i w) (list_of (placed new))
    list-is =
        let a : kept_numbers (placed_list next) ≡ set (kept_numbers l) i w = kept-placed next ∙ kept-replaced l i (with_newest w node) (omega (arith, inside, elements-length l m₀)) in
        let b : file_list (placed_list next) ≡ list_of (placed new) =
        file-placed next ∙ ap placed_list file-next ∙ replaced-list es i el few inside (omega (arith, fine-new.holds)) in
        sym (list-split (placed_list next)) ∙ ap (λ (ks : List ℕ). keeping ks (file_list (placed_list next))) a ∙ ap (keeping (set (kept_numbers l) i w)) b

    nodes-are : map file_node (nodes_of l) ≡ placed es
    nodes-are = sym (file-nodes l) ∙ ap nodes_of reading.list ∙ list-nodes (placed es) (rw placed-length few)

    old-node : file_node (node_at l i) ≡ with_position (0 + total (take i (map node_of es))) (get_or (map node_of es) i blank_node)
    unfolding node_at placed blank_node unplaced
    old-node =
        sym (get_or-map file_node (nodes_of l) i blank_node) ∙ ap (λ (ns : List Node). get_or ns i blank_node) nodes-are ∙ place_at 0 (map node_of es) i blank_node (rw heads-length inside)

    at-is : (node_at l i).at ≡ total (take i (map node_of es))
    at-is = ap (λ (n : Node). n.at) old-node ∙ stands_at (0 + total (take i (map node_of es))) (get_or (map node_of es) i blank_node) ∙ zero-add (total (take i (map node_of es)))

    old-is : capped (numbers_of (node_at l i).kind) ≡ numbers_of (get_or es i blank_element).kind
    old-is =
        ap (λ (n : Node). capped (numbers_of n.kind)) old-node
        ∙ ap (λ (n : _). capped (numbers_of n)) (stands-kind (0 + total (take i (map node_of es))) (get_or (map node_of es) i blank_node) ∙ head_at es i)
        ∙ capped-exact (numbers_of (get_or es i blank_element).kind) (omega (arith, part-few es i inside, fine.holds))

    new_is : capped (numbers_of node.kind) ≡ numbers_of el.kind
    new_is =
        let g : get_or new i blank_element ≡ el = get_or-set_same es i el blank_element inside in
        let h : numbers_of (get_or new i blank_element).kind ≤ total (map node_of new) = part-few new i (rw length-set inside) in
        let j : numbers_of (get_or new i blank_element).kind ≡ numbers_of el.kind = ap (λ (b : Element). numbers_of b.kind) g in
        ap (λ (n : Node). capped (numbers_of n.kind)) f.element.is ∙ ap (λ (n : _). capped (numbers_of n)) (head-kind el)
        ∙ capped-exact (numbers_of el.kind) (omega (arith, fine-new.holds))

    used-is : capped (total (nodes_of l)) ≡ total (map node_of es)
    unfolding placed
    used-is =
        ap capped (sym (file-total (nodes_of l))) ∙ ap (λ (ns : List Node). capped (total ns)) nodes-are ∙ ap capped (total-place 0 (map node_of es))
        ∙ capped-exact (total (map node_of es)) (omega (arith, fine.holds))

    -- the room: the old numbers have given way, and the new ones are laid
    room-is : (m₁ : Room) → m₁ ≡ laid_in (node_at l i).at el.numbers (made_way l i node m₀) → m₁ ≡ filled_with (all_numbers new) m₀
    unfolding made_way
    room-is m₁ r =
        let w : Room → Room =
        λ m. laid_in (total (take i (map node_of es))) el.numbers
        (resized_in (total (take i (map node_of es))) (numbers_of (get_or es i blank_element).kind) (numbers_of el.kind) (total (map node_of es)) m) in
        let b : m₁ ≡ w m₀ = rw (at-is, old-is, new_is, used-is) at r in
        b ∙ ap w reading.room ∙ replaced-in es i blank_element inside reading.sounds el m₀ f.element.all (omega (arith, fine.holds)) (omega (arith, fine-new.holds))

    module _ (m₁ : Room) (h : Stores l i node e m₀ m₁) where
      numbers-are : h.reads.value.numbers ≡ el.numbers
      numbers-are = ap (λ (v : Element). v.numbers) (value-is e h.reads.value f.element.value (end_of h.step) [] (h.reads.out ∙ f.element.out))

      laid_as : m₁ ≡ laid_in (node_at l i).at el.numbers (made_way l i node m₀)
      laid_as =
          h.reads.room
          ∙ room-done e (node_at l i).at h.reads.value.numbers h.reads.value f.element.value (end_of h.step) [] (made_way l i node m₀) (h.reads.out ∙ f.element.out)
          ∙ ap (λ (xs : List Decimal). laid_in (node_at l i).at xs (made_way l i node m₀)) numbers-are

      held : AnswersWith (Replacing.replaced new) (look_after x (numbered_call k w e) (Replacing.replaced new)) (Ok tt) (placed_list next) m₁
      unfolding replacing_answer holding
      held = record { answer = refl; list = list-is; room = room-is m₁ laid_as }

  pub node-replaced : Ok tt ≡ judged room (nodes_of next) → (m₁ : Room) → Stores l i node e m₀ m₁ → (r : ProcessList) → r ≡ placed_list next
      → ReplacedKeeping w l m₀ k e (Ok tt) r m₁
  node-replaced q m₁ h r t =
      let a : verdict room new ≡ Ok tt = sym (q ∙ verdict-is) in
      let b : call_in x (plain_call k e) ≡ Replacing.replaced new = answer-is ∙ ap (replacing_by new) a in
      rw t (subst (λ (y : Replacing.Replacing). AnswersWith y (look_after x (numbered_call k w e) y) (Ok tt) (placed_list next) m₁) (sym b) (held a m₁ h))

-- ---- as the code goes

-- the old numbers give way, and the element is read in their place
pub stores : (l : ProcessList) (i : ℕ) (node : Node) (e : List ℕ) (m₀ m m₁ : Room) (old : Node) (a b u : ℕ) → old ≡ node_at l i → a ≡ capped (numbers_of old.kind)
    → b ≡ capped (numbers_of node.kind)
    → u ≡ capped (total (nodes_of l)) → m ≡ resized_in old.at a b u m₀ → (step : Result NodeRead Stop) → NodeReads element.run e 0 old.at step m m₁ → Stores l i node e m₀ m₁
unfolding made_way
stores l i node e m₀ m m₁ old a b u qo qa qb qu qm step r = record { step = step; reads = rw (← qo, ← qa, ← qb, ← qu, ← qm) r }

-- the verdict over the list with its new node: l₁ is that list, n the room's length
module _ (w : ℕ) (l : ProcessList) (m₀ : Room) (k : ℕ) (node : Node) (e : List ℕ) (f : Fits l m₀ k node e) (new : Node) (qw : new ≡ with_newest w node)
    (l₁ : ProcessList) (ql : l₁ ≡ replaced_at l (k - 1) new) (n : ℕ) (qn : n ≡ room_length m₀) where
  next-so : l₁ ≡ replaced_at l (k - 1) (with_newest w node)
  next-so = ql ∙ ap (replaced_at l (k - 1)) qw

  judged-so : (v : Verdict) → v ≡ judged n (nodes_of l₁) → v ≡ judged (room_length m₀) (nodes_of (replaced_at l (k - 1) (with_newest w node)))
  judged-so v qv = qv ∙ ap (λ (m : ℕ). judged m (nodes_of l₁)) qn ∙ ap (λ (a : ProcessList). judged (room_length m₀) (nodes_of a)) next-so

  pub code-refused : (why : Unfit) → Err why ≡ judged n (nodes_of l₁) → ReplacedKeeping w l m₀ k e (refused_at (unfit_number why) (unfit_place why)) l m₀
  code-refused why q = node-refused w l m₀ k node e f why (judged-so (Err why) q)

  pub code-replaced : Ok tt ≡ judged n (nodes_of l₁) → (m₁ : Room) → Stores l (k - 1) node e m₀ m₁ → (r : ProcessList) → r ≡ placed_list l₁ → ReplacedKeeping w l m₀ k e (Ok tt) r m₁
  code-replaced q m₁ h r t = node-replaced w l m₀ k node e f (judged-so (Ok tt) q) m₁ h r (t ∙ ap placed_list next-so)
