-- What is promised of a run of calls from any look: the theorems by the list alone, seen in list and room. Assumes nothing.
use mathlib.Core.Path.{◌≡◌, refl, sym, ap, ◌∙◌, subst}
use mathlib.Core.Bool.{Bool, true, false}
use mathlib.Core.List.{List, [], ◌∷◌, map}
use Prim.Native.Nat.{ℕ, zero, suc, ◌-◌, ◌≤◌, ◌<◌}
use native.Mathlib.Omega.{arith}
use borrow.Author.Tests.{lt-ltb, le-leb}
use lib.ListN.{length, take, drop, get_or, length-map, length-set}
use lib.Seq.{take_at}
use Rattle.process_list.specs.List.{Element, most_nodes, node_of, nodes_of, node_at, blank_node, blank_element, verdict}
use Rattle.process_list.proofs.Files.{kept-at, kept-length, list-only}
use Rattle.process_list.proofs.Lists.{Fine, accepted-fine, heads-length}
use Rattle.valid.specs.Valid.{is_valid, element_of, elements_of}
use Rattle.valid.proofs.Laws.{elements-at, elements-length}
use Rattle.valid.proofs.Readings.{parts}
use Rattle.valid.proofs.Readings as Readings
use Rattle.grammar.specs.Parse.{done}
use Rattle.look.specs.Look.{Look, room_length_of, as_read, kept_of, holding, call_in, look_after}
use Rattle.look.specs.Replacing.{Replacing, replaced, refused, list_after, Call, kept_at, call}
use Rattle.replacing.specs.Code.{There, replacing_number}
use Rattle.claims.specs.TriedFile.{NodeState, nodes_after, list_run}
use Rattle.claims.specs.LookRuns.{look_run}
use Rattle.claims.proofs.Rules.{WholeElements}
use Rattle.claims.proofs.Calls.{accepted-put}
use Rattle.claims.proofs.Look.{Shows, shown-elements, SameNodes, look-list}
use Rattle.replace_run.specs.Runs.{numbers_said, CallsRun}
use Rattle.replace_run.proofs.Laws.{length-answers}
use Rattle.late_nodes.specs.Late.{Each, HasNumber, accepted_at, NodeIs, NewestWins, EachNewest}
use Rattle.late_nodes.specs.Late.{KeepsDepthsCountAndId, AllApart, Reorderable, Reordered, RunPromises}
use Rattle.late_nodes.proofs.Wins.{At, Wins, Inside, newest-wins}
use Rattle.late_nodes.proofs.Shapes.{shape_of}
use Rattle.late_nodes.proofs.Orders.{element_in, element_by, Fitting, Shaped, any_order}

-- an index that is inside a list takes no default
getD-inside : {A : Type 0} (xs : List A) (i : ℕ) (a b : A) → i < length xs → get_or xs i a ≡ get_or xs i b
getD-inside [] i a b h = absurd (omega arith)
getD-inside (x ∷ xs) zero a b h = refl
getD-inside (x ∷ xs) (suc i) a b h = getD-inside xs i a b (omega arith)

-- ---- a node of a look is the node of the nodes that it shows

module _ (x : Look) (h : NodeState) (w : WholeElements (room_length_of x) h.elements) (y : Look) (t : Shows x h y) where
  shown-count : length h.elements ≡ length (nodes_of y.list)
  shown-count = ap length (sym (shown-elements x h w y t)) ∙ elements-length y.list y.room

  shown-element : (k : ℕ) → 0 < k → k ≤ length (nodes_of y.list) → element_of y.room (node_at y.list (k - 1)) ≡ get_or h.elements (k - 1) blank_element
  shown-element k f l =
      sym (elements-at y.list y.room (k - 1))
      ∙ ap (λ (es : List Element). get_or es (k - 1) (element_of y.room blank_node)) (shown-elements x h w y t)
      ∙ getD-inside h.elements (k - 1) (element_of y.room blank_node) blank_element (omega (arith, shown-count))

  shown-newest : (k : ℕ) → 0 < k → k ≤ length (nodes_of y.list) → (node_at y.list (k - 1)).newest ≡ kept_at h.kept k
  shown-newest k f l = sym (kept-at y.list (k - 1) (omega arith)) ∙ ap (λ (ks : List ℕ). kept_at ks k) t.kept

  shown-node : (k : ℕ) → 0 < k → k ≤ length (nodes_of y.list) → (e : Element) (n : ℕ) → At h k e n → NodeIs y k e n
  shown-node k f l e n a = record { element = shown-element k f l ∙ a.element; newest = shown-newest k f l ∙ a.newest }

-- ---- no node comes or goes

run_length : (room : ℕ) (calls : List Call) (h : NodeState) → length (list_run room h calls).1.elements ≡ length h.elements
run_length room [] h = refl
run_length room (c ∷ cs) h = run_length room cs (nodes_after h c (call room h.kept h.elements c)) ∙ go (call room h.kept h.elements c) refl
  where
    go : (a : Replacing) → call room h.kept h.elements c ≡ a → length (list_after h.elements a) ≡ length h.elements
    go (replaced new) e =
        let p = accepted-put room h.kept h.elements c new e in
        ap length p.is ∙ length-set h.elements (c.node - 1) p.value
    go (refused n p) e = refl

-- ---- the theorems

module _ (x : Look) (array : length x.list.nodes ≡ most_nodes) (v : is_valid x.list x.room ≡ true) (calls : List Call) where
  abbrev room : ℕ
  room = room_length_of x

  reading : Readings.Reading x.list x.room (elements_of x.list x.room)
  reading = parts x.list x.room array v

  abbrev start : NodeState
  start = record { elements = elements_of x.list x.room; kept = kept_of x }

  whole : WholeElements room start.elements
  whole = record { sounds = reading.sounds; fits = reading.accepted }

  shown : Shows x start x
  unfolding holding
  shown = record { read = λ i. record { list = reading.list i; room = reading.room i }; kept = refl; places = kept-length x.list ∙ array }

  run : (cs : List Call) → SameNodes x start x cs
  run cs = look-list x cs start x whole shown

  few : length start.elements ≤ most_nodes
  unfolding verdict
  few = let f : Fine room (map node_of start.elements) = accepted-fine room (map node_of start.elements) whole.fits in omega (arith, f.few, heads-length start.elements)

  abbrev left : Look
  left = (look_run x calls).1

  abbrev end : NodeState
  end = (list_run room start calls).1

  -- ---- the newest wins

  left-count : length (nodes_of left.list) ≡ length (nodes_of x.list)
  left-count = sym (shown-count x end (run calls).whole left (run calls).shows) ∙ run_length room calls start ∙ shown-count x start whole x shown

  won-look : (k : ℕ) → There x.list k → (cs : List Call) → Wins start end k cs → NewestWins x left k cs
  won-look k o [] a =
      let f = o.first in
      let l = o.last in
      let n : NodeIs left k (get_or start.elements (k - 1) blank_element) (kept_at start.kept k) =
      shown-node x end (run calls).whole left (run calls).shows k f (omega (arith, left-count)) _ _ a in
      record { element = n.element ∙ sym (shown-element x start whole x shown k f l); newest = n.newest ∙ sym (shown-newest x start whole x shown k f l) }
  won-look k o (c ∷ cs) a =
      record { value = a.value; parsed = a.parsed; is = shown-node x end (run calls).whole left (run calls).shows k o.first (omega (arith, left-count, o.last)) _ _ a.is }

  each-newest : Each HasNumber calls → EachNewest x calls (numbers_said (look_run x calls).0) left
  each-newest i = record {
    count = left-count;
    nodes = λ k o.
        let s : Inside start k = record {
          first = o.first;
          element = omega (arith, o.last, shown-count x start whole x shown);
          kept = omega (arith, o.last, few, kept-length x.list, array, shown-count x start whole x shown);
        } in
        subst (λ (z : List Replacing). NewestWins x left k (accepted_at k calls (numbers_said z))) (sym (run calls).answers)
        (won-look k o (accepted_at k calls (numbers_said (list_run room start calls).0)) (newest-wins room k calls start i s));
  }

  -- ---- every order

  fits : (c : Call) → KeepsDepthsCountAndId x c → Fitting start.elements c
  unfolding element_of
  fits c k =
      let e : element_by c ≡ k.value = ap element_in k.parsed in
      let n : length start.elements ≡ length (nodes_of x.list) = shown-count x start whole x shown in
      let f : 0 < c.node = k.there.first in
      let l : c.node ≤ length (nodes_of x.list) = k.there.last in
      record {
        number = k.number;
        there = simp (lt-ltb 0 c.node f, le-leb c.node (length start.elements) (omega arith));
        small = k.small;
        parsed = k.parsed ∙ ap (λ (v : Element). done v []) (sym e);
        shape = ap shape_of e ∙ (λ j. record { input = k.input j; output = k.output j; count = k.count j; id = k.id j }) ∙ ap shape_of (shown-element x start whole x shown c.node f l);
      }

  all_fit : (cs : List Call) → Each (KeepsDepthsCountAndId x) cs → Each (Fitting start.elements) cs
  all_fit [] k = tt
  all_fit (c ∷ cs) k = (fits c k.0, all_fit cs k.1)

  orders : (others : List Call) → Reordered calls others → Each (KeepsDepthsCountAndId x) calls → AllApart calls → left ≡ (look_run x others).1
  orders others r k a =
      let s : Shaped start.elements start = record { shape = refl; count = refl; kept = omega (arith, few, kept-length x.list, array) } in
      let e : end ≡ (list_run room start others).1 = any_order room start.elements whole.fits calls others r (all_fit calls k) a start s in
      let z : Look = (look_run x others).1 in
      let q : as_read left ≡ as_read z = (run calls).shows.read ∙ ap (λ (h : NodeState). holding x h.elements) e ∙ sym (run others).shows.read in
      let p : kept_of left ≡ kept_of z = (run calls).shows.kept ∙ ap (λ (h : NodeState). h.kept) e ∙ sym (run others).shows.kept in
      let l : left.list ≡ z.list = list-only left.list z.list (ap (λ (y : Look). y.list) q) p in
      λ j. record { list = l j; room = ap (λ (y : Look). y.room) q j }

-- ---- a look that is no reading: every call is 16

module _ (x : Look) (v : is_valid x.list x.room ≡ false) where
  no_call : (c : Call) → call_in x c ≡ refused 16 0
  unfolding call_in
  no_call c = rw v refl

  no_run : (calls : List Call) → (look_run x calls).1 ≡ x
  no_run [] = refl
  no_run (c ∷ cs) = ap (λ (a : Replacing). (look_run (look_after x c a) cs).1) (no_call c) ∙ no_run cs

  none-accepted : (k : ℕ) (calls : List Call) → accepted_at k calls (numbers_said (look_run x calls).0) ≡ []
  unfolding accepted_at
  none-accepted k [] = refl
  none-accepted k (c ∷ cs) =
      ap (λ (a : Replacing). accepted_at k (c ∷ cs) (numbers_said (a ∷ (look_run (look_after x c a) cs).0))) (no_call c) ∙ none-accepted k cs

  no-newest : (calls : List Call) → EachNewest x calls (numbers_said (look_run x calls).0) (look_run x calls).1
  no-newest calls =
      subst (EachNewest x calls (numbers_said (look_run x calls).0)) (sym (no_run calls))
      (record { count = refl; nodes = λ k o. subst (NewestWins x x k) (sym (none-accepted k calls)) (record { element = refl; newest = refl }) })

-- ---- any look, whose list has its 32 places

module _ (x : Look) (array : length x.list.nodes ≡ most_nodes) (calls : List Call) where
  pub look-newest : Each HasNumber calls → EachNewest x calls (numbers_said (look_run x calls).0) (look_run x calls).1
  look-newest i = go (is_valid x.list x.room) refl
    where
      go : (b : Bool) → is_valid x.list x.room ≡ b → EachNewest x calls (numbers_said (look_run x calls).0) (look_run x calls).1
      go true v = each-newest x array v calls i
      go false v = no-newest x v calls

  pub look-orders : Reorderable x calls → (others : List Call) → Reordered calls others → (look_run x calls).1 ≡ (look_run x others).1
  look-orders f others r = go (is_valid x.list x.room) refl
    where
      go : (b : Bool) → is_valid x.list x.room ≡ b → (look_run x calls).1 ≡ (look_run x others).1
      go true v = orders x array v calls others r f.each f.apart
      go false v = no_run x v calls ∙ sym (no_run x v others)

-- THE PROMISE
pub promise : (x : Look) → length x.list.nodes ≡ most_nodes → (calls : List Call) (ns₀ ps₀ : List ℕ) (y : Look) (ns₁ ps₁ : List ℕ) → CallsRun x calls ns₀ ps₀ y ns₁ ps₁
    → RunPromises x calls ns₀ ps₀ y ns₁ ps₁
promise x array calls ns₀ ps₀ y ns₁ ps₁ t =
    let n : length (numbers_said (look_run x calls).0) ≡ length calls = length-map (look_run x calls).0 replacing_number ∙ length-answers x calls in
    let e : numbers_said (look_run x calls).0 ≡ take (length calls) ns₁ =
    sym (ap (take (length calls)) t.numbers ∙ take_at (numbers_said (look_run x calls).0) (drop (length calls) ns₀) (length calls) n) in
    record {
      run = t;
      newest = λ i.
          subst (EachNewest x calls (take (length calls) ns₁)) (sym t.left)
          (subst (λ (ns : List ℕ). EachNewest x calls ns (look_run x calls).1) e (look-newest x array calls i));
      orders = λ f others r. t.left ∙ look-orders x array calls f others r;
    }
