-- EVERY ORDER OF ARRIVAL ENDS ALIKE, by the list alone. Assumes nothing.
use mathlib.Core.Path.{◌≡◌, refl, sym, ap, ◌∙◌}
use mathlib.Core.Bool.{Bool, true, false}
use mathlib.Core.List.{List, [], ◌∷◌}
use Prim.Native.Nat.{ℕ, ◌-◌, ◌≤◌, ◌<◌}
use native.Mathlib.Omega.{arith}
use borrow.Author.Tests.{eqb-true, eqb-false, leb-true, leb-false, ltb-true, le-leb, lt-leb, le-ltb}
use lib.Dec.{eqb, leb, ltb}
use lib.ListN.{length, set, get_or, length-set}
use lib.Seq.{get_or-set_same, get_or-set_other, set-set, set_comm}
use Rattle.process_list.specs.List.{Element, blank_element, verdict}
use Rattle.std.proofs.Common.{Ok}
use Rattle.grammar.specs.Parse.{Out, done, fault, cut}
use Rattle.clf.specs.Reading.{most_bytes, is_numbered}
use Rattle.look.specs.Replacing.{element, Call, kept_at, is_late, call, kept_by}
use Rattle.claims.specs.TriedFile.{NodeState, nodes_after, list_run}
use Rattle.claims.proofs.Sound.{and-true}
use Rattle.claims.proofs.Calls.{Put, put-accepted, late-refused}
use Rattle.late_nodes.specs.Late.{Each, call_number, HasNumber, Apart, AllApart, Reordered, same, keep, swap, chain}
use Rattle.late_nodes.proofs.Wins.{has-number}
use Rattle.late_nodes.proofs.Shapes.{shape_of, shapes, same-verdict, set-shapes}

-- ---- what holds of calls holds of them in another order

each-reordered : (P : Call → Type 0) {cs ds : List Call} → Reordered cs ds → Each P cs → Each P ds
each-reordered P same e = e
each-reordered P (keep c r) e = (e.0, each-reordered P r e.1)
each-reordered P (swap c d) e = (e.1.0, (e.0, e.1.1))
each-reordered P (chain r t) e = each-reordered P t (each-reordered P r e)

turned : (c d : Call) → Apart c d → Apart d c
turned c d q e f = q (sym e) (sym f)

apart-reordered : {cs ds : List Call} → Reordered cs ds → AllApart cs → AllApart ds
apart-reordered same a = a
apart-reordered (keep c r) a = (each-reordered (Apart c) r a.0, apart-reordered r a.1)
apart-reordered (swap c d) a = ((turned c d a.0.0, a.1.0), (a.0.1, a.1.1))
apart-reordered (chain r t) a = apart-reordered t (apart-reordered r a)

-- ---- a call that can be refused as late alone

-- the element of a call without fault; of any other, nothing is asked
abbrev pub element_in : Out Element → Element
element_in (done v r) = v
element_in (fault k r) = blank_element
element_in cut = blank_element

abbrev pub element_by : Call → Element
element_by c = element_in (element.run c.element)

-- the element v with the number n at index i: the nodes as they were where that is late
abbrev placed_at : Bool → ℕ → Element → ℕ → NodeState → NodeState
placed_at true i v n h = h
placed_at false i v n h = record { elements = set h.elements i v; kept = set h.kept i n }

abbrev put_at : ℕ → Element → ℕ → NodeState → NodeState
put_at i v n h = placed_at (leb n (get_or h.kept i 0)) i v n h

-- what such a call leaves
abbrev placing : Bool → Call → NodeState → NodeState
placing b c h = placed_at b (c.node - 1) (element_by c) (call_number c) h

abbrev puts : Call → NodeState → NodeState
puts c h = put_at (c.node - 1) (element_by c) (call_number c) h

-- ---- at one node the larger number wins, whichever comes first

module _ (i : ℕ) (v w : Element) (m n : ℕ) (l : m < n) (h : NodeState) (k : i < length h.kept) where
  kept_set : (x : ℕ) → get_or (set h.kept i x) i 0 ≡ x
  kept_set x = get_or-set_same h.kept i x 0 k

  later-wins : put_at i w n (put_at i v m h) ≡ put_at i w n h
  later-wins = go (leb m (get_or h.kept i 0)) refl
    where
      go : (b : Bool) → leb m (get_or h.kept i 0) ≡ b → put_at i w n (placed_at b i v m h) ≡ put_at i w n h
      go true q = refl
      go false q =
          let g : get_or h.kept i 0 < m = leb-false m (get_or h.kept i 0) q in
          let a : leb n (get_or (set h.kept i m) i 0) ≡ false = lt-leb n (get_or (set h.kept i m) i 0) (omega (arith, kept_set m)) in
          let b : leb n (get_or h.kept i 0) ≡ false = lt-leb n (get_or h.kept i 0) (omega arith) in
          ap (λ (t : Bool). placed_at t i w n (placed_at false i v m h)) a
          ∙ (λ j. record { elements = set-set h.elements i v w j; kept = set-set h.kept i m n j })
          ∙ sym (ap (λ (t : Bool). placed_at t i w n h) b)

  earlier-late : put_at i v m (put_at i w n h) ≡ put_at i w n h
  earlier-late = go (leb n (get_or h.kept i 0)) refl
    where
      go : (b : Bool) → leb n (get_or h.kept i 0) ≡ b → put_at i v m (placed_at b i w n h) ≡ placed_at b i w n h
      go true q =
          let g : n ≤ get_or h.kept i 0 = leb-true n (get_or h.kept i 0) q in
          ap (λ (t : Bool). placed_at t i v m h) (le-leb m (get_or h.kept i 0) (omega arith))
      go false q = ap (λ (t : Bool). placed_at t i v m (placed_at false i w n h)) (le-leb m (get_or (set h.kept i n) i 0) (omega (arith, kept_set n)))

omega-less : (m n : ℕ) → m ≤ n → (m ≡ n → ⊥) → m < n
omega-less m n h q = omega arith

swap-here : (i : ℕ) (v w : Element) (m n : ℕ) → (m ≡ n → ⊥) → (h : NodeState) → i < length h.kept → put_at i w n (put_at i v m h) ≡ put_at i v m (put_at i w n h)
swap-here i v w m n q h k = go (leb m n) refl
  where
    go : (b : Bool) → leb m n ≡ b → put_at i w n (put_at i v m h) ≡ put_at i v m (put_at i w n h)
    go true e =
        let le : m ≤ n = leb-true m n e in
        let l : m < n = omega-less m n le q in
        later-wins i v w m n l h k ∙ sym (earlier-late i v w m n l h k)
    go false e = let l : n < m = leb-false m n e in earlier-late i w v n m l h k ∙ sym (later-wins i w v n m l h k)

-- the call c is such a one for the elements es
pub record Fitting (es : List Element) (c : Call) : Type 0 where
  pub number : HasNumber c
  pub there : is_numbered c.node (length es) ≡ true
  pub small : length c.element ≤ most_bytes
  pub parsed : element.run c.element ≡ done (element_by c) []
  pub shape : shape_of (element_by c) ≡ shape_of (get_or es (c.node - 1) blank_element)

-- nodes of the shapes of es, all kept numbers there
pub record Shaped (es : List Element) (h : NodeState) : Type 0 where
  pub shape : shapes h.elements ≡ shapes es
  pub count : length h.elements ≡ length es
  pub kept : length es ≤ length h.kept

module _ (room : ℕ) (es : List Element) (v : verdict room es ≡ Ok tt) where
  puts-shaped : (c : Call) → Fitting es c → (h : NodeState) → Shaped es h → (b : Bool) → Shaped es (placing b c h)
  puts-shaped c f h s true = s
  puts-shaped c f h s false = record {
    shape = set-shapes h.elements es (c.node - 1) (element_by c) s.shape f.shape;
    count = length-set h.elements (c.node - 1) (element_by c) ∙ s.count;
    kept = rw length-set s.kept;
  }

  there-in : (c : Call) → Fitting es c → (h : NodeState) → Shaped es h → is_numbered c.node (length h.elements) ≡ true
  there-in c f h s = ap (is_numbered c.node) s.count ∙ f.there

  late_is : (c : Call) → Fitting es c → (h : NodeState) → is_late (kept_at h.kept c.node) c.numbering ≡ leb (call_number c) (kept_at h.kept c.node)
  late_is c f h = ap (is_late (kept_at h.kept c.node)) (has-number c f.number)

  -- a call on such nodes
  call-puts : (c : Call) → Fitting es c → (h : NodeState) → Shaped es h → nodes_after h c (call room h.kept h.elements c) ≡ puts c h
  call-puts c f h s = go (leb (call_number c) (kept_at h.kept c.node)) refl
    where
      new : List Element
      new = set h.elements (c.node - 1) (element_by c)

      go : (b : Bool) → leb (call_number c) (kept_at h.kept c.node) ≡ b → nodes_after h c (call room h.kept h.elements c) ≡ placing b c h
      go true q = ap (nodes_after h c) (late-refused room h.kept h.elements c (there-in c f h s) (late_is c f h ∙ q))
      go false q =
          let p : Put room h.kept h.elements c (set h.elements (c.node - 1) (element_by c)) = record {
            there = there-in c f h s;
            newer = late_is c f h ∙ q;
            short = le-ltb most_bytes (length c.element) f.small;
            value = element_by c;
            parsed = f.parsed;
            is = refl;
            fits = same-verdict room (set h.elements (c.node - 1) (element_by c)) es (set-shapes h.elements es (c.node - 1) (element_by c) s.shape f.shape) ∙ v;
          } in
          ap (nodes_after h c) (put-accepted room h.kept h.elements c (set h.elements (c.node - 1) (element_by c)) p)
          ∙ ap (λ (ks : List ℕ). record { elements = set h.elements (c.node - 1) (element_by c); kept = ks }) (ap (kept_by h.kept c.node) (has-number c f.number))

  -- all calls
  abbrev all_put : List Call → NodeState → NodeState
  all_put [] h = h
  all_put (c ∷ cs) h = all_put cs (puts c h)

  run-puts : (cs : List Call) → Each (Fitting es) cs → (h : NodeState) → Shaped es h → (list_run room h cs).1 ≡ all_put cs h
  run-puts [] f h s = refl
  run-puts (c ∷ cs) f h s =
      ap (λ (z : NodeState). (list_run room z cs).1) (call-puts c f.0 h s)
      ∙ run-puts cs f.1 (puts c h) (puts-shaped c f.0 h s (leb (call_number c) (kept_at h.kept c.node)))

  -- ---- two calls change places

  in_kept : (c : Call) → Fitting es c → (h : NodeState) → Shaped es h → (0 < c.node) × (c.node - 1 < length h.kept)
  in_kept c f h s =
      let p = and-true (ltb 0 c.node) (leb c.node (length es)) f.there in
      let a : 0 < c.node = ltb-true 0 c.node p.0 in
      let b : c.node ≤ length es = leb-true c.node (length es) p.1 in
      (a, omega (arith, s.kept))

  module _ (c d : Call) (f : Fitting es c) (g : Fitting es d) (h : NodeState) (s : Shaped es h) where
    abbrev late_c : Bool
    late_c = leb (call_number c) (kept_at h.kept c.node)

    abbrev late_d : Bool
    late_d = leb (call_number d) (kept_at h.kept d.node)

    -- for two nodes
    module _ (q : c.node ≡ d.node → ⊥) where
      other : c.node - 1 ≡ d.node - 1 → ⊥
      other e = q (omega (arith, (in_kept c f h s).0, (in_kept d g h s).0))

      kept-after : (b : Bool) → kept_at (placing b c h).kept d.node ≡ kept_at h.kept d.node
      kept-after true = refl
      kept-after false = get_or-set_other h.kept (c.node - 1) (d.node - 1) (call_number c) 0 (λ e. other (sym e))

      kept-before : (b : Bool) → kept_at (placing b d h).kept c.node ≡ kept_at h.kept c.node
      kept-before true = refl
      kept-before false = get_or-set_other h.kept (d.node - 1) (c.node - 1) (call_number d) 0 other

      both : (a b : Bool) → placing b d (placing a c h) ≡ placing a c (placing b d h)
      both true b = refl
      both false true = refl
      both false false = λ i. record {
        elements = set_comm h.elements (c.node - 1) (d.node - 1) (element_by c) (element_by d) other i;
        kept = set_comm h.kept (c.node - 1) (d.node - 1) (call_number c) (call_number d) other i;
      }

      swap-apart : puts d (puts c h) ≡ puts c (puts d h)
      swap-apart =
          ap (λ (n : ℕ). placing (leb (call_number d) n) d (puts c h)) (kept-after late_c)
          ∙ both late_c late_d
          ∙ sym (ap (λ (n : ℕ). placing (leb (call_number c) n) c (puts d h)) (kept-before late_d))

    -- for one node
    swap-same : c.node ≡ d.node → (call_number c ≡ call_number d → ⊥) → puts d (puts c h) ≡ puts c (puts d h)
    swap-same e q =
        ap (λ (j : ℕ). put_at (j - 1) (element_by d) (call_number d) (puts c h)) (sym e)
        ∙ swap-here (c.node - 1) (element_by c) (element_by d) (call_number c) (call_number d) q h (in_kept c f h s).1
        ∙ ap (λ (j : ℕ). puts c (put_at (j - 1) (element_by d) (call_number d) h)) e

    swaps : Apart c d → puts d (puts c h) ≡ puts c (puts d h)
    swaps q = go (eqb c.node d.node) refl
      where
        go : (b : Bool) → eqb c.node d.node ≡ b → puts d (puts c h) ≡ puts c (puts d h)
        go true e = let y : c.node ≡ d.node = eqb-true c.node d.node e in swap-same y (q y)
        go false e = swap-apart (eqb-false c.node d.node e)

  -- ---- every order

  puts-keeps : (c : Call) → Fitting es c → (h : NodeState) → Shaped es h → Shaped es (puts c h)
  puts-keeps c f h s = puts-shaped c f h s (leb (call_number c) (kept_at h.kept c.node))

  order_same : {cs ds : List Call} → Reordered cs ds → Each (Fitting es) cs → AllApart cs → (h : NodeState) → Shaped es h → all_put cs h ≡ all_put ds h
  order_same same f a h s = refl
  order_same (keep c r) f a h s = order_same r f.1 a.1 (puts c h) (puts-keeps c f.0 h s)
  order_same (swap {cs = cs} c d) f a h s = ap (all_put cs) (swaps c d f.0 f.1.0 h s a.0.0)
  order_same (chain r t) f a h s = order_same r f a h s ∙ order_same t (each-reordered (Fitting es) r f) (apart-reordered r a) h s

  pub any_order : (cs ds : List Call) → Reordered cs ds → Each (Fitting es) cs → AllApart cs → (h : NodeState) → Shaped es h → (list_run room h cs).1 ≡ (list_run room h ds).1
  any_order cs ds r f a h s = run-puts cs f h s ∙ order_same r f a h s ∙ sym (run-puts ds (each-reordered (Fitting es) r f) h s)
