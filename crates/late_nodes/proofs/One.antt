-- What is promised of one call: which numbers are late, and what is kept. Assumes nothing.
use mathlib.Core.Path.{◌≡◌, refl, sym, ap, ◌∙◌}
use mathlib.Core.Bool.{Bool, true, false, cond, ◌&&◌}
use mathlib.Core.List.{List}
use Prim.Native.Nat.{ℕ, ◌-◌, ◌≤◌, ◌<◌}
use native.Mathlib.Omega.{arith}
use borrow.Author.Tests.{lt-ltb, le-leb, ltb-true, leb-true}
use lib.Dec.{leb, ltb}
use lib.ListN.{length, length-set}
use Rattle.process_list.specs.declared.ProcessList.{ProcessList}
use Rattle.process_list.specs.List.{Element, most_nodes, placed, list_of}
use Rattle.process_list.proofs.Files.{kept-at, kept-length, kept-keeping, file-keeping}
use Rattle.process_list.proofs.Lists.{list_length}
use Rattle.room.specs.Room.{Room}
use Rattle.valid.specs.Valid.{is_valid, elements_of}
use Rattle.valid.proofs.Laws.{elements-length}
use Rattle.valid.proofs.Readings.{valid-file, elements-file}
use Rattle.grammar.specs.Laws.{nope}
use Rattle.clf.specs.Reading.{is_numbered}
use Rattle.look.specs.Look.{Look, room_length_of, as_read, kept_of, holding, call_in, look_after}
use Rattle.look.specs.Replacing.{Replacing, replaced, refused, Numbering, unnumbered, numbered, Call, plain_call, numbered_call, kept_at, is_late, replace, call, kept_by}
use Rattle.replacing.specs.Code.{Outcome, CallAnswers, There, look_of, replacing_number, replacing_place}
use Rattle.replace_run.proofs.Laws.{look_is, number_is}
use Rattle.claims.proofs.Sound.{and-true}
use Rattle.claims.proofs.Calls.{is_replace_fault, is_call_fault, replace-number, call-number}
use Rattle.late_nodes.specs.Late.{newest_at, NumberedCall, UnnumberedCall}

-- ---- a call of either kind: its answer, by two tests

module _ (x : Look) where
  abbrev es : List Element
  es = elements_of x.list x.room

  module _ (c : Call) where
    abbrev is_late_there : Bool
    is_late_there = is_late (kept_at (kept_of x) c.node) c.numbering && is_numbered c.node (length es)

    abbrev by : Bool → Bool → Replacing
    by v l = cond v (cond l (refused 28 0) (replace (room_length_of x) es c.node c.element)) (refused 16 0)

    call-is : call_in x c ≡ by (is_valid x.list x.room) is_late_there
    unfolding call_in call
    call-is = refl

    -- a refusal is never 0
    not-zero : (n p : ℕ) → call_in x c ≡ refused n p → n ≡ 0 → ⊥
    unfolding call_in
    not-zero n p e z = go (is_valid x.list x.room) e
      where
        go : (v : Bool) → cond v (call (room_length_of x) (kept_of x) es c) (refused 16 0) ≡ refused n p → ⊥
        go true q = let f : false ≡ true = sym (ap is_call_fault z) ∙ call-number (room_length_of x) (kept_of x) es c n p q in nope cc
        go false q = let y : 16 ≡ n = cc in omega arith

  -- an unnumbered call is never 28
  replace-not-late : (k : ℕ) (e : List ℕ) (a : Replacing) → replace (room_length_of x) es k e ≡ a → replacing_number a ≡ 28 → ⊥
  replace-not-late k e (replaced new) q z = omega arith
  replace-not-late k e (refused n p) q z = let f : false ≡ true = sym (ap is_replace_fault z) ∙ replace-number (room_length_of x) es k e n p q in nope cc

-- ---- a numbered call

module _ (x : Look) (k n : ℕ) (e : List ℕ) where
  abbrev c : Call
  c = numbered_call k n e

  kept-newest : There x.list k → kept_at (kept_of x) k ≡ newest_at x k
  kept-newest o = kept-at x.list (k - 1) (omega (arith, o.first, o.last))

  late-there : is_late_there x c ≡ true → There x.list k × (n ≤ newest_at x k)
  late-there q =
      let p = and-true (leb n (kept_at (kept_of x) k)) (is_numbered k (length (es x))) q in
      let t = and-true (ltb 0 k) (leb k (length (es x))) p.1 in
      let a : 0 < k = ltb-true 0 k t.0 in
      let b : k ≤ length (es x) = leb-true k (length (es x)) t.1 in
      let o : There x.list k = record { first = a; last = omega (arith, elements-length x.list x.room) } in
      let h : n ≤ kept_at (kept_of x) k = leb-true n (kept_at (kept_of x) k) p.0 in
      (o, omega (arith, kept-newest o))

  there-late : There x.list k → n ≤ newest_at x k → is_late_there x c ≡ true
  there-late o h =
      let l : leb n (kept_at (kept_of x) k) ≡ true = le-leb n (kept_at (kept_of x) k) (omega (arith, kept-newest o)) in
      let a : ltb 0 k ≡ true = lt-ltb 0 k o.first in
      let b : leb k (length (es x)) ≡ true = le-leb k (length (es x)) (omega (arith, o.last, elements-length x.list x.room)) in
      rw (l, a, b) refl

  -- 28, exactly
  late-answer : is_valid x.list x.room ≡ true → There x.list k → n ≤ newest_at x k → call_in x c ≡ refused 28 0
  late-answer v o h = call-is x c ∙ ap (λ (b : Bool). by x c b (is_late_there x c)) v ∙ ap (by x c true) (there-late o h)

  answer-late : replacing_number (call_in x c) ≡ 28 → (is_valid x.list x.room ≡ true) × There x.list k × (n ≤ newest_at x k)
  answer-late z = go (is_valid x.list x.room) (is_late_there x c) refl refl (sym (ap replacing_number (call-is x c)) ∙ z)
    where
      go : (v l : Bool) → is_valid x.list x.room ≡ v → is_late_there x c ≡ l → replacing_number (by x c v l) ≡ 28 → (is_valid x.list x.room ≡ true) × There x.list k × (n ≤ newest_at x k)
      go true true qv ql z = let t = late-there ql in (qv, t.0, t.1)
      go true false qv ql z = absurd (replace-not-late x k e (replace (room_length_of x) (es x) k e) refl z)
      go false l qv ql z = absurd (omega arith)

  -- any other
  other-answer : (replacing_number (call_in x c) ≡ 28 → ⊥) → call_in x c ≡ call_in x (plain_call k e)
  other-answer z = call-is x c ∙ go (is_valid x.list x.room) (is_late_there x c) (λ q. z (ap replacing_number (call-is x c) ∙ q)) ∙ sym (call-is x (plain_call k e))
    where
      go : (v l : Bool) → (replacing_number (by x c v l) ≡ 28 → ⊥) → by x c v l ≡ by x (plain_call k e) v false
      go true true z = absurd (z refl)
      go true false z = refl
      go false l z = refl

  -- what a file says of the look left does not depend on the number
  left-same : (a : Replacing) → as_read (look_after x c a) ≡ as_read (look_after x (plain_call k e) a)
  left-same (replaced new) = ap (λ (l : ProcessList). record { list = l; room = (holding x new).room }) (file-keeping _ (holding x new).list ∙ sym (file-keeping _ (holding x new).list))
  left-same (refused m p) = refl

-- ---- the kept numbers after a call

module _ (x : Look) (array : length x.list.nodes ≡ most_nodes) (c : Call) where
  kept-left : (new : List Element) → kept_of (look_after x c (replaced new)) ≡ kept_by (kept_of x) c.node c.numbering
  unfolding holding
  kept-left new = kept-keeping (kept_by (kept_of x) c.node c.numbering) (list_of (placed new)) (go c.numbering ∙ sym (list_length (placed new)))
    where
      go : (n : Numbering) → length (kept_by (kept_of x) c.node n) ≡ most_nodes
      go unnumbered = kept-length x.list ∙ array
      go (numbered n) = length-set (kept_of x) (c.node - 1) n ∙ kept-length x.list ∙ array

  kept-accepted : replacing_number (call_in x c) ≡ 0 → kept_of (look_after x c (call_in x c)) ≡ kept_by (kept_of x) c.node c.numbering
  kept-accepted z = go (call_in x c) refl z
    where
      go : (a : Replacing) → call_in x c ≡ a → replacing_number a ≡ 0 → kept_of (look_after x c a) ≡ kept_by (kept_of x) c.node c.numbering
      go (replaced new) q z = kept-left new
      go (refused n p) q z = absurd (not-zero x c n p q z)

  left-refused : (replacing_number (call_in x c) ≡ 0 → ⊥) → look_after x c (call_in x c) ≡ x
  left-refused z = go (call_in x c) z
    where
      go : (a : Replacing) → (replacing_number a ≡ 0 → ⊥) → look_after x c a ≡ x
      go (replaced new) z = absurd (z refl)
      go (refused n p) z = refl

-- ---- as the code answers

module _ (x : Look) (array : length x.list.nodes ≡ most_nodes) (r : Outcome) (l₁ : ProcessList) (m₁ : Room) where
  abbrev y : Look
  y = look_of l₁ m₁

  pub numbered-call : (k n : ℕ) (e : List ℕ) → CallAnswers x (numbered_call k n e) r l₁ m₁ → NumberedCall x k n e r y
  numbered-call k n e h =
      let c : Call = numbered_call k n e in
      let l : look_after x c (call_in x c) ≡ y = look_is x c r l₁ m₁ h in
      let a = number_is x c r l₁ m₁ h in
      record {
        answers = h;
        late = (λ z. answer-late x k n e (a.0 ∙ z), λ t. sym a.0 ∙ ap replacing_number (late-answer x k n e t.0 t.1 t.2));
        place = λ z. let t = answer-late x k n e (a.0 ∙ z) in sym a.1 ∙ ap replacing_place (late-answer x k n e t.0 t.1 t.2);
        other = λ z.
            let q : call_in x c ≡ call_in x (plain_call k e) = other-answer x k n e (λ w. z (sym a.0 ∙ w)) in
            record {
              number = sym a.0 ∙ ap replacing_number q;
              place = sym a.1 ∙ ap replacing_place q;
              left = ap as_read (sym l) ∙ left-same x k n e (call_in x c) ∙ ap (λ (b : Replacing). as_read (look_after x (plain_call k e) b)) q;
            };
        kept = λ z. ap kept_of (sym l) ∙ kept-accepted x array c (a.0 ∙ z);
        refused = λ z. sym l ∙ left-refused x array c (λ w. z (sym a.0 ∙ w));
      }

  pub unnumbered-call : (k : ℕ) (e : List ℕ) → CallAnswers x (plain_call k e) r l₁ m₁ → UnnumberedCall x k e r y
  unnumbered-call k e h =
      let c : Call = plain_call k e in
      let l : look_after x c (call_in x c) ≡ y = look_is x c r l₁ m₁ h in
      let a = number_is x c r l₁ m₁ h in
      record {
        answers = h;
        never = λ z. never (a.0 ∙ z);
        unseen = unseen;
        kept = ap kept_of (sym l) ∙ stays (call_in x c);
        refused = λ z. sym l ∙ left-refused x array c (λ w. z (sym a.0 ∙ w));
      }
    where
      never : replacing_number (call_in x (plain_call k e)) ≡ 28 → ⊥
      never z = go (is_valid x.list x.room) (sym (ap replacing_number (call-is x (plain_call k e))) ∙ z)
        where
          go : (v : Bool) → replacing_number (by x (plain_call k e) v false) ≡ 28 → ⊥
          go true q = replace-not-late x k e (replace (room_length_of x) (es x) k e) refl q
          go false q = omega arith

      unseen : call_in x (plain_call k e) ≡ call_in (as_read x) (plain_call k e)
      unseen =
          call-is x (plain_call k e)
          ∙ ap (λ (v : Bool). by x (plain_call k e) v false) (sym (valid-file x.list x.room))
          ∙ ap (λ (l : List Element). cond (is_valid (as_read x).list x.room) (replace (room_length_of x) l k e) (refused 16 0)) (sym (elements-file x.list x.room))
          ∙ sym (call-is (as_read x) (plain_call k e))

      stays : (a : Replacing) → kept_of (look_after x (plain_call k e) a) ≡ kept_of x
      stays (replaced new) = kept-left x array (plain_call k e) new
      stays (refused n p) = refl
