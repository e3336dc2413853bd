-- THE NEWEST WINS, by the list alone: over any run of numbered calls, each node is what the accepted one with the largest number there made it. Assumes nothing.
use mathlib.Core.Path.{◌≡◌, refl, sym, ap, ◌∙◌, subst}
use mathlib.Core.Bool.{Bool, true, false, cond, ◌&&◌}
use mathlib.Core.List.{List, [], ◌∷◌, map}
use Prim.Native.Nat.{ℕ, ◌-◌, ◌≤◌, ◌<◌}
use native.Mathlib.Omega.{arith}
use borrow.Author.Tests.{eqb-true, eqb-false, ne_eqb, lt-ltb, leb-false, ltb-true}
use lib.Dec.{eqb, leb, ltb}
use lib.ListN.{length, set, get_or, length-set}
use lib.Seq.{get_or-set_same, get_or-set_other}
use Rattle.process_list.specs.List.{Element, blank_element}
use Rattle.grammar.specs.Parse.{done}
use Rattle.grammar.specs.Laws.{nope}
use Rattle.look.specs.Replacing.{element, Replacing, replaced, refused, Numbering, numbered, Call, kept_at, is_late, call, kept_by}
use Rattle.replacing.specs.Code.{replacing_number}
use Rattle.claims.specs.TriedFile.{NodeState, nodes_after, list_run}
use Rattle.claims.proofs.Sound.{and-true}
use Rattle.claims.proofs.Calls.{Put, accepted-put, is_call_fault, call-number}
use Rattle.late_nodes.specs.Late.{Each, number_given, call_number, HasNumber, accepted_at, largest}

-- ---- node k of a list's nodes

pub record At (h : NodeState) (k : ℕ) (e : Element) (n : ℕ) : Type 0 where
  pub element : get_or h.elements (k - 1) blank_element ≡ e
  pub newest : kept_at h.kept k ≡ n

pub record Made (h : NodeState) (k : ℕ) (c : Call) : Type 0 where
  pub value : Element
  pub parsed : element.run c.element ≡ done value []
  pub is : At h k value (call_number c)

abbrev pub Wins : NodeState → NodeState → ℕ → List Call → Type 0
Wins h z k [] = At z k (get_or h.elements (k - 1) blank_element) (kept_at h.kept k)
Wins h z k (c ∷ cs) = Made z k (largest c cs)

-- node k is there, in the list and among the kept numbers
pub record Inside (h : NodeState) (k : ℕ) : Type 0 where
  pub first : 0 < k
  pub element : k ≤ length h.elements
  pub kept : k ≤ length h.kept

-- what is shown of a run from h to z, of which these calls were accepted for node k: their numbers are larger than the one kept at first
abbrev Above : ℕ → List Call → Type 0
Above n = Each (λ (c : Call). n < call_number c)

record Won (h z : NodeState) (k : ℕ) (cs : List Call) : Type 0 where
  above : Above (kept_at h.kept k) cs
  wins : Wins h z k cs

above-less : (m n : ℕ) (cs : List Call) → m ≤ n → Above n cs → Above m cs
above-less m n [] h a = tt
above-less m n (c ∷ cs) h a = (omega (arith, a.0), above-less m n cs h a.1)

-- ---- an accepted call puts its element and its number

pub has-number : (c : Call) → HasNumber c → c.numbering ≡ numbered (call_number c)
has-number c i = i.1 ∙ ap numbered (sym (ap number_given i.1))

-- the number of a call that is not late
newer-number : (c : Call) (kept : ℕ) → HasNumber c → is_late kept c.numbering ≡ false → kept < call_number c
newer-number c kept i e = leb-false (call_number c) kept (subst (λ (n : Numbering). is_late kept n ≡ false) (has-number c i) e)

module _ (room : ℕ) (h : NodeState) (c : Call) (i : HasNumber c) (new : List Element) (p : Put room h.kept h.elements c new) (k : ℕ) (s : Inside h k) where
  abbrev after : NodeState
  after = nodes_after h c (replaced new)

  kept-is : after.kept ≡ set h.kept (c.node - 1) (call_number c)
  kept-is = ap (kept_by h.kept c.node) (has-number c i)

  pub put-inside : Inside after k
  put-inside = record {
    first = s.first;
    element = rw (p.is, length-set) s.element;
    kept = rw (kept-is, length-set) s.kept;
  }

  put-here : c.node ≡ k → At after k p.value (call_number c)
  put-here q = record {
    element = ap (λ (es : List Element). get_or es (k - 1) blank_element) p.is ∙ ap (λ (j : ℕ). get_or (set h.elements (j - 1) p.value) (k - 1) blank_element) q
        ∙ get_or-set_same h.elements (k - 1) p.value blank_element (omega (arith, s.first, s.element));
    newest = ap (λ (ks : List ℕ). kept_at ks k) kept-is ∙ ap (λ (j : ℕ). get_or (set h.kept (j - 1) (call_number c)) (k - 1) 0) q
        ∙ get_or-set_same h.kept (k - 1) (call_number c) 0 (omega (arith, s.first, s.kept));
  }

  put-there : 0 < c.node
  put-there = ltb-true 0 c.node (and-true (ltb 0 c.node) (leb c.node (length h.elements)) p.there).0

  put-elsewhere : (c.node ≡ k → ⊥) → At after k (get_or h.elements (k - 1) blank_element) (kept_at h.kept k)
  put-elsewhere q =
      let d : k - 1 ≡ c.node - 1 → ⊥ = λ e. q (omega (arith, s.first, put-there)) in
      record {
        element = ap (λ (es : List Element). get_or es (k - 1) blank_element) p.is ∙ get_or-set_other h.elements (c.node - 1) (k - 1) p.value blank_element d;
        newest = ap (λ (ks : List ℕ). kept_at ks k) kept-is ∙ get_or-set_other h.kept (c.node - 1) (k - 1) (call_number c) 0 d;
      }

  put-newer : c.node ≡ k → kept_at h.kept k < call_number c
  put-newer q = subst (λ (j : ℕ). kept_at h.kept j < call_number c) q (newer-number c (kept_at h.kept c.node) i p.newer)

  -- ---- one turn, from what is shown of the rest of the run

  made-first : (z : NodeState) (cs : List Call) → c.node ≡ k → Won after z k cs → Made z k (largest c cs)
  unfolding largest
  made-first z [] q w =
      let a = put-here q in
      record { value = p.value; parsed = p.parsed; is = record { element = w.wins.element ∙ a.element; newest = w.wins.newest ∙ a.newest } }
  made-first z (d ∷ ds) q w =
      let l : call_number c < call_number d = omega (arith, w.above.0, (put-here q).newest) in
      subst (Made z k) (ap (λ (b : Bool). cond b (largest d ds) (largest c ds)) (sym (lt-ltb (call_number c) (call_number d) l))) w.wins

  turn-here : (z : NodeState) (cs : List Call) → c.node ≡ k → Won after z k cs → Won h z k (c ∷ cs)
  turn-here z cs q w =
      record {
        above = (put-newer q, above-less (kept_at h.kept k) (kept_at after.kept k) cs (omega (arith, put-newer q, (put-here q).newest)) w.above);
        wins = made-first z cs q w;
      }

  turn-elsewhere : (z : NodeState) (cs : List Call) → (c.node ≡ k → ⊥) → Won after z k cs → Won h z k cs
  turn-elsewhere z [] q w =
      let a = put-elsewhere q in
      record { above = tt; wins = record { element = w.wins.element ∙ a.element; newest = w.wins.newest ∙ a.newest } }
  turn-elsewhere z (d ∷ ds) q w = record { above = subst (λ (n : ℕ). Above n (d ∷ ds)) (put-elsewhere q).newest w.above; wins = w.wins }

-- ---- the run

-- numbers of answers
abbrev pub said_of : List Replacing → List ℕ
said_of = map replacing_number

not-zero : (n : ℕ) → is_call_fault n ≡ true → n ≡ 0 → ⊥
not-zero n h z = let f : false ≡ true = sym (ap is_call_fault z) ∙ h in nope cc

module _ (room k : ℕ) where
  won-turn : (h : NodeState) (c : Call) (cs : List Call) → HasNumber c → Inside h k → (a : Replacing) → call room h.kept h.elements c ≡ a → (z : NodeState) (ns : List ℕ)
      → (Inside (nodes_after h c a) k → Won (nodes_after h c a) z k (accepted_at k cs ns)) → Won h z k (accepted_at k (c ∷ cs) (replacing_number a ∷ ns))
  unfolding accepted_at
  won-turn h c cs i s (refused n p) e z ns f =
      let q : eqb n 0 ≡ false = ne_eqb n 0 (not-zero n (call-number room h.kept h.elements c n p e)) in
      rw q (f s)
  won-turn h c cs i s (replaced new) e z ns f = by (eqb c.node k) refl
    where
      p : Put room h.kept h.elements c new
      p = accepted-put room h.kept h.elements c new e

      by : (b : Bool) → eqb c.node k ≡ b → Won h z k (cond (true && b) (c ∷ accepted_at k cs ns) (accepted_at k cs ns))
      by true q = turn-here room h c i new p k s z (accepted_at k cs ns) (eqb-true c.node k q) (f (put-inside room h c i new p k s))
      by false q = turn-elsewhere room h c i new p k s z (accepted_at k cs ns) (eqb-false c.node k q) (f (put-inside room h c i new p k s))

  won : (calls : List Call) (h : NodeState) → Each HasNumber calls → Inside h k → Won h (list_run room h calls).1 k (accepted_at k calls (said_of (list_run room h calls).0))
  unfolding accepted_at
  won [] h i s = record { above = tt; wins = record { element = refl; newest = refl } }
  won (c ∷ cs) h i s =
      let a : Replacing = call room h.kept h.elements c in
      won-turn h c cs i.0 s a refl (list_run room (nodes_after h c a) cs).1 (said_of (list_run room (nodes_after h c a) cs).0) (won cs (nodes_after h c a) i.1)

  pub newest-wins : (calls : List Call) (h : NodeState) → Each HasNumber calls → Inside h k → Wins h (list_run room h calls).1 k (accepted_at k calls (said_of (list_run room h calls).0))
  newest-wins calls h i s = (won calls h i s).wins
