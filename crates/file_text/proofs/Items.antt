-- The loops of a file's text, one turn at a time. Assumes nothing.
use mathlib.Core.Path.{◌≡◌, refl, ap, ◌∙◌}
use mathlib.Core.List.{List, [], ◌∷◌, ◌++◌}
use Prim.Native.Nat.{ℕ, ◌+◌, ◌-◌, ◌≤◌, ◌<◌}
use native.Mathlib.Omega.{arith}
use lib.ListN.{length, drop, length-append, length-take, length-drop}
use Rattle.grammar.specs.Parse.{Out, done, fault, cut, Parser, Turn, again, before, then_out, ret_p, kept_p, kept_out, strict_p, strict_out, loop_state}
use Rattle.grammar.specs.Laws.{state-again, state-last, state-fault, state-cut}
use Rattle.grammar.specs.Grammar.{added, one_item}
use Rattle.grammar.specs.Splice.{strict-done, flat, items_after, items-again, items-last, items-fault, items-cut}
use Rattle.xml.specs.Elements.{Part, close}
use Rattle.clf.specs.List.{Child, Flags, list_item, next_flags}
use Rattle.clf.specs.Whole.{WholeText}

-- a later place leaves fewer bytes
pub fewer : (s : List ℕ) (i e : ℕ) → i < e → e ≤ length s → length (drop e s) < length (drop i s)
fewer s i e h k = simp length-drop (omega arith)

-- ---- ProcessList's items

abbrev pub on_items : List (Part Child × List ℕ) → Flags → Parser (List (Part Child × List ℕ))
on_items = items_after list_item next_flags

-- the item p from i up to e, with its bytes
abbrev pub item_at : List ℕ → ℕ → ℕ → Part Child → Part Child × List ℕ
item_at s i e p = (p, before (drop i s) (drop e s))

module _ (l : List (Part Child × List ℕ)) (st : Flags) (s : List ℕ) (i e : ℕ) (h : i < e) (k : e ≤ length s) where
  turn-done : (p : Part Child) → (list_item st).run (drop i s) ≡ done p (drop e s)
      → strict_p (kept_p (list_item st).run) (drop i s) ≡ done (item_at s i e p) (drop e s)
  turn-done p q =
      strict-done (kept_p (list_item st).run) (drop i s) (item_at s i e p) (drop e s) (ap (λ (o : Out (Part Child)). kept_out o (drop i s)) q) (fewer s i e h k)

  pub items-on : (p : Part Child) (st' : Flags) → (list_item st).run (drop i s) ≡ done p (drop e s) → next_flags st p ≡ again st'
      → on_items l st (drop i s) ≡ on_items (l ++ item_at s i e p ∷ []) st' (drop e s)
  items-on p st' q n = items-again list_item next_flags l st (drop i s) (item_at s i e p) (drop e s) st' (turn-done p q) n

  pub items-end : (list_item st).run (drop i s) ≡ done close (drop e s) → on_items l st (drop i s) ≡ done (l ++ item_at s i e close ∷ []) (drop e s)
  items-end q = items-last list_item next_flags l st (drop i s) (item_at s i e close) (drop e s) tt (turn-done close q) refl

pub items-bad : (l : List (Part Child × List ℕ)) (st : Flags) (u : List ℕ) (k : ℕ) (r : List ℕ) → (list_item st).run u ≡ fault k r → on_items l st u ≡ fault k r
items-bad l st u k r q = items-fault list_item next_flags l st u k r (ap (λ (o : Out (Part Child)). strict_out (kept_out o u) u) q)

pub items-short : (l : List (Part Child × List ℕ)) (st : Flags) (u : List ℕ) → (list_item st).run u ≡ cut → on_items l st u ≡ cut
items-short l st u q = items-cut list_item next_flags l st u (ap (λ (o : Out (Part Child)). strict_out (kept_out o u) u) q)

-- ---- how far they came: what stands whole behind the items of a list

abbrev pub whole_from : List (Part Child × List ℕ) → Flags → List ℕ → WholeText
whole_from l st u = loop_state (λ v. (one_item list_item next_flags v).run) (st, l) u

abbrev turned : List (Part Child × List ℕ) → Flags → Out (Part Child × List ℕ) → Out (Turn WholeText (List (Part Child × List ℕ)))
turned l st o = then_out o (λ y. ret_p (added l y (next_flags st y.0)))

module _ (l : List (Part Child × List ℕ)) (st : Flags) (s : List ℕ) (i e : ℕ) (h : i < e) (k : e ≤ length s) where
  pub whole-on : (p : Part Child) (st' : Flags) → (list_item st).run (drop i s) ≡ done p (drop e s) → next_flags st p ≡ again st'
      → whole_from l st (drop i s) ≡ whole_from (l ++ item_at s i e p ∷ []) st' (drop e s)
  whole-on p st' q n =
      state-again (λ v. (one_item list_item next_flags v).run) (st, l) (drop i s) (st', l ++ item_at s i e p ∷ []) (drop e s)
      (ap (turned l st) (turn-done l st s i e h k p q) ∙ ap (λ (x : Turn Flags (Unit {0})). done (added l (item_at s i e p) x) (drop e s)) n) (fewer s i e h k)

  pub whole-end : (list_item st).run (drop i s) ≡ done close (drop e s) → whole_from l st (drop i s) ≡ (st, l)
  whole-end q =
      state-last (λ v. (one_item list_item next_flags v).run) (st, l) (drop i s) (l ++ item_at s i e close ∷ []) (drop e s) (ap (turned l st) (turn-done l st s i e h k close q))

  -- the bytes of an item are counted
  pub item-length : (p : Part Child) → length (item_at s i e p).1 ≡ e - i
  item-length p = simp (length-take, length-drop) (omega arith)

pub whole-bad : (l : List (Part Child × List ℕ)) (st : Flags) (u : List ℕ) (k : ℕ) (r : List ℕ) → (list_item st).run u ≡ fault k r → whole_from l st u ≡ (st, l)
whole-bad l st u k r q = state-fault (λ v. (one_item list_item next_flags v).run) (st, l) u k r (ap (λ (o : Out (Part Child)). turned l st (strict_out (kept_out o u) u)) q)

pub whole-short : (l : List (Part Child × List ℕ)) (st : Flags) (u : List ℕ) → (list_item st).run u ≡ cut → whole_from l st u ≡ (st, l)
whole-short l st u q = state-cut (λ v. (one_item list_item next_flags v).run) (st, l) u (ap (λ (o : Out (Part Child)). turned l st (strict_out (kept_out o u) u)) q)

pub flat-more : (l : List (Part Child × List ℕ)) (x : Part Child × List ℕ) → length (flat (l ++ x ∷ [])) ≡ length (flat l) + length x.1
flat-more [] x = length-append x.1 [] ∙ omega arith
flat-more (y ∷ l) x = length-append y.1 (flat (l ++ x ∷ [])) ∙ omega (arith, flat-more l x, length-append y.1 (flat l))
