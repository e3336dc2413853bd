-- The state with one child more: its nodes, and the place of the one that is wanted. Assumes nothing.
use Rattle.process_list.specs.List.{Element}
use mathlib.Core.Path.{◌≡◌, refl, sym, ap, ◌∙◌}
use mathlib.Core.Bool.{Bool, true, false, cond, ◌&&◌}
use mathlib.Core.List.{List, [], ◌∷◌, ◌++◌, append-nil}
use Prim.Native.Nat.{ℕ, suc, ◌+◌, ◌-◌, ◌≤◌, ◌<◌, min}
use native.Mathlib.Omega.{arith}
use native.Mathlib.Numerals.{add-one}
use lib.Dec.{eqb, ltb, leb}
use lib.ListN.{length, length-append}
use borrow.Author.Tests.{lt-ltb, le-ltb, ltb-true, ltb-false, eqb-true, eqb-false, le-leb, lt-leb, leb-true, leb-false}
use Rattle.grammar.specs.Parse.{again}
use Rattle.grammar.specs.Splice.{flat}
use Rattle.xml.specs.Elements.{Part, misc, child}
use Rattle.process_list.specs.declared.ProcessList.{ProcessList}
use Rattle.process_list.specs.List as Lists
use Rattle.clf.specs.List.{Child, node, description, input_descriptor, output_descriptor, info_child, Flags, no_flags, next_flags}
use Rattle.clf.specs.Places.{span_of}
use Rattle.clf.specs.Reading.{nodes_among, with_child, is_numbered}
use Rattle.clf.specs.Whole.{place_among}
use Rattle.clf.proofs.Whole.{nodes-more, span-old, span-new}
use Rattle.process_list.specs.declared.Node.{Node}
use Rattle.file_text.specs.declared.ListState.{ListState}
use Rattle.file_text.specs.declared.Progress.{Progress}
use Rattle.file_text.specs.Code.{bare, state_with, state_from, flags_of, state_by, no_list, flagged, wanted_start, is_over, behind_node, behind_child, list_with, found_child}
use Rattle.file_text.proofs.Nodes.{list-one, used-one, bare-length}

-- ---- items with the same nodes

pub nodes-misc : (l : List (Part Child × List ℕ)) (b : List ℕ) → nodes_among (l ++ (misc, b) ∷ []) ≡ nodes_among l
unfolding nodes_among
nodes-misc l b = nodes-more l ((misc, b) ∷ []) ∙ append-nil (nodes_among l)

-- the nodes of a child behind others
pub nodes-child : (l : List (Part Child × List ℕ)) (c : Child) (b : List ℕ) → nodes_among (l ++ (child c, b) ∷ []) ≡ nodes_among l ++ with_child c []
unfolding nodes_among
nodes-child l c b = nodes-more l ((child c, b) ∷ [])

-- ---- places

never : ◌≡◌ {A = Bool} false true → ⊥
never w = let v : ◌≡◌ {A = ℕ} 0 1 = cc in omega arith

numbered-true : (k n : ℕ) → is_numbered k n ≡ true → (0 < k) × (k ≤ n)
numbered-true k n q = by (ltb 0 k) (leb k n) refl refl q
  where
    by : (a b : Bool) → ltb 0 k ≡ a → leb k n ≡ b → (a && b) ≡ true → (0 < k) × (k ≤ n)
    by true true x y z = (ltb-true 0 k x, leb-true k n y)
    by true false x y z = absurd (never z)
    by false b x y z = absurd (never z)

numbered_more : (k n : ℕ) → (k ≡ suc n → ⊥) → is_numbered k (suc n) ≡ is_numbered k n
numbered_more k n h = ap (λ (b : Bool). ltb 0 k && b) (by (leb k n) refl)
  where
    by : (b : Bool) → leb k n ≡ b → leb k (suc n) ≡ b
    by true q = le-leb k (suc n) (omega (arith, leb-true k n q))
    by false q = lt-leb k (suc n) (let l : n < k = leb-false k n q in let w : k ≡ suc n → ⊥ = h in less w l)
      where
        less : (k ≡ suc n → ⊥) → n < k → suc n < k
        less w l = omega (arith, w)

numbered_is : (k n : ℕ) → 0 < k → k ≤ n → is_numbered k n ≡ true
numbered_is k n h l = ap (λ (b : Bool). b && leb k n) (lt-ltb 0 k h) ∙ le-leb k n l

abbrev place_by : ℕ → ℕ → ℕ → List (Part Child × List ℕ) → ℕ
place_by n k at parts = cond (is_numbered k (min Lists.most_nodes n)) (span_of parts (k - 1) at).0 0

-- items behind, where the number is one of those before
old-place : (n k at : ℕ) (l m : List (Part Child × List ℕ)) → n ≤ length (nodes_among l) → place_by n k at (l ++ m) ≡ place_by n k at l
old-place n k at l m h = by (is_numbered k (min Lists.most_nodes n)) refl
  where
    by : (b : Bool) → is_numbered k (min Lists.most_nodes n) ≡ b → cond b (span_of (l ++ m) (k - 1) at).0 0 ≡ cond b (span_of l (k - 1) at).0 0
    by true q =
        let i = numbered-true k (min Lists.most_nodes n) q in
        let j : k - 1 < length (nodes_among l) = omega (arith, i.0, i.1) in
        ap (λ (v : ℕ × ℕ). v.0) (span-old l m (k - 1) at j)
    by false q = refl

-- an item that is no node changes no place
same_place : (k at : ℕ) (l : List (Part Child × List ℕ)) (x : Part Child × List ℕ) → nodes_among (l ++ x ∷ []) ≡ nodes_among l → place_among k at (l ++ x ∷ []) ≡ place_among k at l
same_place k at l x e = ap (λ (n : ℕ). place_by n k at (l ++ x ∷ [])) (ap length e) ∙ old-place (length (nodes_among l)) k at l (x ∷ []) (omega arith)

-- the count of a list of the first 32 nodes
count-is : (ns : List Element) → (Lists.list_of (bare ns)).count ≡ min (length ns) 32
unfolding Lists.list_of
count-is ns = ap (λ (n : ℕ). min n 32) (bare-length ns)

-- one node more, whose `<` stands at i
node-place : (k at i : ℕ) (l : List (Part Child × List ℕ)) (v : Element) (b : List ℕ) → i ≡ at + length (flat l)
    → wanted_start (min (length (nodes_among l)) 32) k (place_among k at l) i ≡ place_among k at (l ++ (child (node v), b) ∷ [])
unfolding wanted_start
node-place k at i l v b q = by (ltb (min (length (nodes_among l)) 32) 32) (eqb (min (length (nodes_among l)) 32 + 1) k) refl refl
  where
    more : place_among k at (l ++ (child (node v), b) ∷ []) ≡ place_by (suc (length (nodes_among l))) k at (l ++ (child (node v), b) ∷ [])
    more =
        ap (λ (m : ℕ). place_by m k at (l ++ (child (node v), b) ∷ []))
        (ap length (nodes-child l (node v) b) ∙ length-append (nodes_among l) (v ∷ []) ∙ add-one (length (nodes_among l)))

    by : (x y : Bool) → ltb (min (length (nodes_among l)) 32) 32 ≡ x → eqb (min (length (nodes_among l)) 32 + 1) k ≡ y
        → cond x (cond y i (place_among k at l)) (place_among k at l) ≡ place_among k at (l ++ (child (node v), b) ∷ [])
    by true true f g =
        let h : min (length (nodes_among l)) 32 < 32 = ltb-true (min (length (nodes_among l)) 32) 32 f in
        let j : min (length (nodes_among l)) 32 + 1 ≡ k = eqb-true (min (length (nodes_among l)) 32 + 1) k g in
        let e : k - 1 ≡ length (nodes_among l) = omega arith in
        let t : is_numbered k (min Lists.most_nodes (suc (length (nodes_among l)))) ≡ true = numbered_is k (min Lists.most_nodes (suc (length (nodes_among l)))) (omega arith) (omega arith) in
        q ∙ sym (span-new l v b at) ∙ ap (λ (m : ℕ). (span_of (l ++ (child (node v), b) ∷ []) m at).0) (sym e)
        ∙ sym (ap (λ (z : Bool). cond z (span_of (l ++ (child (node v), b) ∷ []) (k - 1) at).0 0) t) ∙ sym more
    by true false f g =
        let h : min (length (nodes_among l)) 32 < 32 = ltb-true (min (length (nodes_among l)) 32) 32 f in
        let j : min (length (nodes_among l)) 32 + 1 ≡ k → ⊥ = eqb-false (min (length (nodes_among l)) 32 + 1) k g in
        let a : min Lists.most_nodes (suc (length (nodes_among l))) ≡ suc (length (nodes_among l)) = omega arith in
        let c : min Lists.most_nodes (length (nodes_among l)) ≡ length (nodes_among l) = omega arith in
        let t : is_numbered k (suc (length (nodes_among l))) ≡ is_numbered k (length (nodes_among l)) = numbered_more k (length (nodes_among l)) (λ w. j (omega arith)) in
        let u : is_numbered k (min Lists.most_nodes (suc (length (nodes_among l)))) ≡ is_numbered k (min Lists.most_nodes (length (nodes_among l))) =
        ap (is_numbered k) a ∙ t ∙ ap (is_numbered k) (sym c) in
        sym (more ∙ ap (λ (z : Bool). cond z (span_of (l ++ (child (node v), b) ∷ []) (k - 1) at).0 0) u ∙ old-place (length (nodes_among l)) k at l ((child (node v), b) ∷ []) (omega arith))
    by false y f g =
        let h : 32 ≤ min (length (nodes_among l)) 32 = ltb-false (min (length (nodes_among l)) 32) 32 f in
        let u : min Lists.most_nodes (suc (length (nodes_among l))) ≡ min Lists.most_nodes (length (nodes_among l)) = omega arith in
        sym (more ∙ ap (λ (z : ℕ). cond (is_numbered k z) (span_of (l ++ (child (node v), b) ∷ []) (k - 1) at).0 0) u
        ∙ old-place (length (nodes_among l)) k at l ((child (node v), b) ∷ []) (omega arith))

-- ---- the state with one node more

over-more : (n m : ℕ) → m ≡ n + 1 → is_over (ltb 32 n) (min n 32) ≡ ltb 32 m
unfolding is_over
over-more n m q = by (ltb 32 n) refl
  where
    by : (b : Bool) → ltb 32 n ≡ b → cond b true (leb 32 (min n 32)) ≡ ltb 32 m
    by true z = let h : 32 < n = ltb-true 32 n z in sym (lt-ltb 32 m (omega arith))
    by false z = let h : n ≤ 32 = ltb-false 32 n z in last h (leb 32 (min n 32)) refl
      where
        last : n ≤ 32 → (c : Bool) → leb 32 (min n 32) ≡ c → c ≡ ltb 32 m
        last h true w = sym (lt-ltb 32 m (omega (arith, leb-true 32 (min n 32) w)))
        last h false w = sym (le-ltb 32 m (omega (arith, leb-false 32 (min n 32) w)))

same-state : {l l' : ProcessList} {o o' : Bool} {u u' p p' : ℕ} (fl : Flags) → l ≡ l' → o ≡ o' → u ≡ u' → p ≡ p'
    → ◌≡◌ {A = ListState} (record { list = l; over = o; used = u; input = fl.input; output = fl.output; info = fl.info; start = p })
    (record { list = l'; over = o'; used = u'; input = fl.input; output = fl.output; info = fl.info; start = p' })
same-state fl a b c d = cc

-- a state with one node more, whose `<` stands at `at`
abbrev node_state : ListState → Node → ℕ → ℕ → ListState
node_state st n wanted at = record {
  list = Lists.appended st.list n;
  over = is_over st.over st.list.count;
  used = Lists.capped (st.used + Lists.numbers_of n.kind);
  input = st.input;
  output = st.output;
  info = st.info;
  start = wanted_start st.list.count wanted st.start at;
}

-- a state with these flags
abbrev with_flags : ListState → Bool → Bool → Bool → ListState
with_flags st i o f = record { list = st.list; over = st.over; used = st.used; input = i; output = o; info = f; start = st.start }

grown : (fl : Flags) (ns : List Element) (p wanted i : ℕ) (v : Element)
    → node_state (state_with fl ns p) (Lists.node_of v) wanted i ≡ state_with fl (ns ++ v ∷ []) (wanted_start (min (length ns) 32) wanted p i)
unfolding state_with
grown fl ns p wanted i v =
    same-state fl (list-one ns v)
    (ap (is_over (ltb 32 (length ns))) (count-is ns) ∙ over-more (length ns) (length (ns ++ v ∷ [])) (length-append ns (v ∷ [])))
    (used-one ns v)
    (ap (λ (k : ℕ). wanted_start k wanted p i) (count-is ns))

-- ---- the state with one item more

pub state-none : (wanted at : ℕ) → no_list ≡ state_from wanted at (no_flags, [])
unfolding state_from state_with nodes_among Lists.total Lists.capped
state-none wanted at = ap (λ (p : ℕ). record { list = Lists.list_of []; over = false; used = 0; input = false; output = false; info = false; start = p }) (by (is_numbered wanted 0) refl)
  where
    by : (b : Bool) → is_numbered wanted 0 ≡ b → 0 ≡ cond b (span_of [] (wanted - 1) at).0 0
    by true q = let i = numbered-true wanted 0 q in absurd (omega (arith, i.0, i.1))
    by false q = refl

module _ (wanted at : ℕ) (l : List (Part Child × List ℕ)) where
  -- an item that is no node
  other : (fl : Flags) (x : Part Child × List ℕ) → nodes_among (l ++ x ∷ []) ≡ nodes_among l → state_from wanted at (fl, l) ≡ state_from wanted at (fl, l ++ x ∷ [])
  unfolding state_from
  other fl x e = ap (λ (ns : List Element). state_with fl ns (place_among wanted at l)) (sym e) ∙ ap (state_with fl (nodes_among (l ++ x ∷ []))) (sym (same_place wanted at l x e))

  pub state-misc : (list : ProcessList) (p : Progress) (b : List ℕ) → state_by list p ≡ state_from wanted at (flags_of p, l) → state_by list p ≡ state_from wanted at (flags_of p, l ++ (misc, b) ∷ [])
  state-misc list p b e = e ∙ other (flags_of p) (misc, b) (nodes-misc l b)

  with-flags : (list : ProcessList) (p : Progress) (i o f : Bool) → state_by list p ≡ state_from wanted at (flags_of p, l)
      → state_by list (flagged p i o f) ≡ state_from wanted at (record { input = i; output = o; info = f }, l)
  unfolding state_from state_with
  with-flags list p i o f e = ap (λ (x : ListState). with_flags x i o f) e

  -- a child, whose `<` stands at i
  pub state-child : (list : ProcessList) (p : Progress) (i : ℕ) (c : Child) (b : List ℕ) → i ≡ at + length (flat l) → state_by list p ≡ state_from wanted at (flags_of p, l)
      → state_by (list_with list (found_child c)) (behind_child p (found_child c) list.count wanted i)
      ≡ state_from wanted at (flags_of (behind_child p (found_child c) list.count wanted i), l ++ (child c, b) ∷ [])
  unfolding state_from behind_node
  state-child list p i (node v) b q e =
      ap (λ (x : ListState). node_state x (Lists.node_of v) wanted i) e ∙ grown (flags_of p) (nodes_among l) (place_among wanted at l) wanted i v
      ∙ ap (λ (ns : List Element). state_with (flags_of p) ns (wanted_start (min (length (nodes_among l)) 32) wanted (place_among wanted at l) i)) (sym (nodes-child l (node v) b))
      ∙ ap (state_with (flags_of p) (nodes_among (l ++ (child (node v), b) ∷ []))) (node-place wanted at i l v b q)
  state-child list p i description b q e = e ∙ other (flags_of p) (child description, b) (nodes-child l description b ∙ append-nil (nodes_among l))
  state-child list p i input_descriptor b q e =
      with-flags list p true p.output p.info e ∙ other (flags_of (flagged p true p.output p.info)) (child input_descriptor, b) (nodes-child l input_descriptor b ∙ append-nil (nodes_among l))
  state-child list p i output_descriptor b q e =
      with-flags list p p.input true p.info e ∙ other (flags_of (flagged p p.input true p.info)) (child output_descriptor, b) (nodes-child l output_descriptor b ∙ append-nil (nodes_among l))
  state-child list p i info_child b q e =
      with-flags list p p.input p.output true e ∙ other (flags_of (flagged p p.input p.output true)) (child info_child, b) (nodes-child l info_child b ∙ append-nil (nodes_among l))

-- the flags behind a child
pub flags-child : (p : Progress) (count wanted i : ℕ) (c : Child) → next_flags (flags_of p) (child c) ≡ again (flags_of (behind_child p (found_child c) count wanted i))
unfolding behind_node
flags-child p count wanted i (node v) = refl
flags-child p count wanted i description = refl
flags-child p count wanted i input_descriptor = refl
flags-child p count wanted i output_descriptor = refl
flags-child p count wanted i info_child = refl
