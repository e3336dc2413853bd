-- What tags, and elements that hold elements, read ends with `>`. Assumes nothing.
use mathlib.Core.Path.{◌≡◌, refl, sym, ap, ◌∙◌, subst}
use mathlib.Core.Bool.{Bool, true, false, cond}
use mathlib.Core.List.{List, [], ◌∷◌, ◌++◌, append_assoc}
use mathlib.Core.Logic.{◌⊎◌, inl, inr}
use Prim.Native.Nat.{ℕ, zero, suc, ◌≤◌, ◌<◌, min}
use native.Mathlib.Omega.{arith}
use lib.Dec.{eqb, ltb}
use lib.ListN.{length}
use borrow.Author.Tests.{eqb-true, ltb-true}
use Rattle.grammar.specs.Parse.{Out, done, fault, cut, Turn, again, last, ret_p, judged_to, judge_out, settle_out, turn_out, loop_p}
use Rattle.grammar.specs.Laws.{nope, loop-step}
use Rattle.grammar.specs.Grammar.{G, ret, bad, look, look_two, judge, settle, eat, seq, loop, ◌>>◌}
use Rattle.grammar.specs.Splice.{done-law, bind_inv, strict-inv}
use Rattle.xml.specs.Bytes.{bytes, same, is_space, less_than, greater_than, slash, exclamation, question, ampersand}
use Rattle.xml.specs.Xml.{byte, word, spaces, entity, comment, Rules, TagState, Tag, attribute, tag_byte, start_tag, open_name, close_name, end_tag}
use Rattle.xml.specs.Elements.{Part, misc, child, close, markup, between, Holder, after_part, held}

-- ---- words

byte-done : (c k : ℕ) → 0 < k → (s : List ℕ) (b : ℕ) (r : List ℕ) → (byte c k).run s ≡ done b r → s ≡ c ∷ r
byte-done c k h [] b r e = nope cc
byte-done c k h (x ∷ s) b r e = go (eqb x c) k h refl e
  where
    go : (v : Bool) (k : ℕ) → 0 < k → eqb x c ≡ v → judged_to (cond v 0 k) x s (x ∷ s) ≡ done b r → x ∷ s ≡ c ∷ r
    go true k h q z = let y : x ≡ c = eqb-true x c q in cc
    go false zero h q z = absurd (omega arith)
    go false (suc k) h q z = nope cc

word-done : (w : List ℕ) (k : ℕ) → 0 < k → (s : List ℕ) (u : Unit {0}) (r : List ℕ) → (word w k).run s ≡ done u r → s ≡ w ++ r
word-done [] k h s u r e = cc
word-done (c ∷ w) k h s u r e =
    let i = bind_inv (byte c k).run (λ b. (word w k).run) s u r e in
    byte-done c k h s i.0 i.1 i.2 ∙ ap (λ (l : List ℕ). c ∷ l) (word-done w k h i.1 u r i.3)

-- ---- ends

-- what stands before r ends with `>`
pub record Ended (s r : List ℕ) : Type 0 where
  pub c : List ℕ
  pub is : s ≡ c ++ 62 ∷ r

pub further : (s d u r : List ℕ) → s ≡ d ++ u → Ended u r → Ended s r
further s d u r e k = record { c = d ++ k.c; is = e ∙ ap (λ (l : List ℕ). d ++ l) k.is ∙ sym (append_assoc d k.c (62 ∷ r)) }

-- all that p reads ends with `>`; or it reads nothing at all
pub record Closes {A : Type 0} (p : G A) : Type 0 where
  pub at : (s : List ℕ) (a : A) (r : List ℕ) → p.run s ≡ done a r → Ended s r

pub record Stops {A : Type 0} (p : G A) : Type 0 where
  pub at : (s : List ℕ) (a : A) (r : List ℕ) → p.run s ≡ done a r → (s ≡ r) ⊎ Ended s r

module _ {A B : Type 0} where
  pub closes-last : (p : G A) {f : A → G B} → ((a : A) → Closes (f a)) → Closes (seq p f)
  closes-last p {f} h = record {
    at = λ s b r e.
        let i = bind_inv p.run (λ a. (f a).run) s b r e in
        let d = done-law p.run s i.0 i.1 (p.law s) i.2 in
        further s d.0 i.1 r d.1 ((h i.0).at i.1 b r i.3);
  }

  pub closes-ret : {p : G A} (g : A → B) → Closes p → Closes (seq p (λ a. ret (g a)))
  closes-ret {p} g h = record {
    at = λ s b r e.
        let i = bind_inv p.run (λ a. ret_p (g a)) s b r e in
        let z : i.1 ≡ r = cc in
        subst (Ended s) z (h.at s i.0 i.1 i.2);
  }

  pub closes-stops : {p : G A} {f : A → G B} → Closes p → ((a : A) → Stops (f a)) → Closes (seq p f)
  closes-stops {p} {f} h g = record {
    at = λ s b r e.
        let i = bind_inv p.run (λ a. (f a).run) s b r e in
        go s i.1 r (h.at s i.0 i.1 i.2) ((g i.0).at i.1 b r i.3);
  }
    where
      go : (s u r : List ℕ) → Ended s u → (u ≡ r) ⊎ Ended u r → Ended s r
      go s u r k (inl z) = subst (Ended s) z k
      go s u r k (inr j) = further s (k.c ++ 62 ∷ []) u r (k.is ∙ sym (append_assoc k.c (62 ∷ []) u)) j

  pub stops-ret : {p : G A} (g : A → B) → Stops p → Stops (seq p (λ a. ret (g a)))
  stops-ret {p} g h = record {
    at = λ s b r e.
        let i = bind_inv p.run (λ a. ret_p (g a)) s b r e in
        let z : i.1 ≡ r = cc in
        subst (λ (u : List ℕ). (s ≡ u) ⊎ Ended s u) z (h.at s i.0 i.1 i.2);
  }

-- the last turn of a loop closes it
module _ {S B : Type 0} (f : S → G (Turn S B)) (each : (st : S) (s : List ℕ) (b : B) (r : List ℕ) → (f st).run s ≡ done (last b) r → Ended s r) where
  abbrev runs : S → List ℕ → Out B
  runs = loop_p (λ v. (f v).run)

  turn-closes : (n : ℕ) → ((st : S) (s : List ℕ) (b : B) (r : List ℕ) → length s < n → runs st s ≡ done b r → Ended s r)
      → (st : S) (s : List ℕ) (b : B) (r : List ℕ) → length s ≤ n → (o : Out (Turn S B)) → (f st).run s ≡ o → turn_out runs o s ≡ done b r → Ended s r
  turn-closes n ih st s b r h (done (last a) u) q z = let y : u ≡ r = cc in subst (Ended s) y (each st s a u q)
  turn-closes n ih st s b r h (done (again v) u) q z = by (ltb (length u) (length s)) refl z
    where
      by : (t : Bool) → ltb (length u) (length s) ≡ t → cond t (runs v u) cut ≡ done b r → Ended s r
      by true k y =
          let l : length u < length s = ltb-true (length u) (length s) k in
          let d = done-law (f st).run s (again v) u ((f st).law s) q in
          further s d.0 u r d.1 (ih v u b r (omega arith) y)
      by false k y = nope cc
  turn-closes n ih st s b r h (fault k u) q z = nope cc
  turn-closes n ih st s b r h cut q z = nope cc

  loop-closes : (n : ℕ) (st : S) (s : List ℕ) (b : B) (r : List ℕ) → length s < n → runs st s ≡ done b r → Ended s r
  loop-closes zero st s b r h e = absurd (omega arith)
  loop-closes (suc n) st s b r h e = turn-closes n (loop-closes n) st s b r (omega arith) ((f st).run s) refl (sym (loop-step (λ v. (f v).run) st s) ∙ e)

  closes-loop : (st : S) → Closes (loop f st)
  closes-loop st = record { at = λ s b r e. loop-closes (suc (length s)) st s b r (omega arith) e }

-- ---- tags

judge-done : {A : Type 0} (j : A → ℕ) (o : Out A) (s : List ℕ) (a : A) (r : List ℕ) → judge_out j o s ≡ done a r → o ≡ done a r
judge-done j (done b u) s a r e = go (j b) e
  where
    go : (n : ℕ) → judged_to n b u s ≡ done a r → done b u ≡ done a r
    go zero z = z
    go (suc n) z = nope cc
judge-done j (fault k u) s a r e = nope cc
judge-done j cut s a r e = nope cc

settle-done : {A : Type 0} (v : ℕ) (o : Out A) (s : List ℕ) (a : A) (r : List ℕ) → settle_out v o s ≡ done a r → o ≡ done a r
settle-done zero (done b u) s a r e = e
settle-done (suc v) (done b u) s a r e = nope cc
settle-done zero (fault k u) s a r e = nope cc
settle-done (suc v) (fault k u) s a r e = go (eqb (length u) (length s)) e
  where
    go : (t : Bool) → cond t (fault (min (suc v) k) s) (fault (suc v) s) ≡ done a r → fault k u ≡ done a r
    go true z = nope cc
    go false z = nope cc
settle-done v cut s a r e = nope cc

byte-closes : Closes (byte greater_than 2)
byte-closes = record { at = λ s b r e. record { c = []; is = byte-done greater_than 2 (omega arith) s b r e } }

tag-last : (rules : Rules) (st : TagState) (s : List ℕ) (tag : Tag) (r : List ℕ) → (look (tag_byte rules st)).run s ≡ done (last tag) r → Ended s r
tag-last rules st [] tag r e = nope cc
tag-last rules st (b ∷ s) tag r e = go (is_space b) (eqb b greater_than) (eqb b slash) st.spaced refl e
  where
    opened : G (Turn TagState Tag)
    opened = judge (λ x. rules.opened st.attributes) eat >> ret (last (record { attributes = st.attributes; empty = false }))

    emptied : G (Turn TagState Tag)
    emptied = judge (λ x. rules.emptied st.attributes) (word (bytes "/>") 2) >> ret (last (record { attributes = st.attributes; empty = true }))

    more : G (Turn TagState Tag)
    more = seq (attribute rules st.attributes) (λ a. ret (again (record { spaced = false; attributes = st.attributes ++ a ∷ [] })))

    go : (v w y z : Bool) → eqb b greater_than ≡ w
        → (cond v (eat >> ret (again (record { spaced = true; attributes = st.attributes }))) (cond w opened (cond y emptied (cond z more (bad 2))))).run (b ∷ s) ≡ done (last tag) r
        → Ended (b ∷ s) r
    go true w y z q f = nope cc
    go false true y z q f =
        let i = bind_inv (judge (λ x. rules.opened st.attributes) eat).run (λ a. ret_p (last (record { attributes = st.attributes; empty = false }))) (b ∷ s) (last tag) r f in
        let k : done b s ≡ done i.0 i.1 = judge-done (λ x. rules.opened st.attributes) (done b s) (b ∷ s) i.0 i.1 i.2 in
        let l : s ≡ r = cc in
        record { c = []; is = ap (λ (x : ℕ). x ∷ s) (eqb-true b greater_than q) ∙ ap (λ (x : List ℕ). 62 ∷ x) l }
    go false false true z q f =
        let i = bind_inv (judge (λ x. rules.emptied st.attributes) (word (bytes "/>") 2)).run (λ a. ret_p (last (record { attributes = st.attributes; empty = true }))) (b ∷ s) (last tag) r f in
        let k = judge-done (λ x. rules.emptied st.attributes) ((word (bytes "/>") 2).run (b ∷ s)) (b ∷ s) i.0 i.1 i.2 in
        let l : i.1 ≡ r = cc in
        record { c = 47 ∷ []; is = word-done (bytes "/>") 2 (omega arith) (b ∷ s) i.0 i.1 k ∙ ap (λ (x : List ℕ). 47 ∷ 62 ∷ x) l }
    go false false false true q f =
        let i = bind_inv (attribute rules st.attributes).run (λ a. ret_p (again (record { spaced = false; attributes = st.attributes ++ a ∷ [] }))) (b ∷ s) (last tag) r f in
        nope (cc i.3)
    go false false false false q f = nope cc

pub start_tag-closes : (rules : Rules) → Closes (start_tag rules)
unfolding start_tag
start_tag-closes rules = closes-loop (λ st. look (tag_byte rules st)) (tag-last rules) (record { spaced = false; attributes = [] })

pub end_tag-closes : (w : List ℕ) (missing : ℕ) → Closes (end_tag w missing)
unfolding end_tag
end_tag-closes w missing = record {
  at = λ s u r e.
      let p : G (Unit {0}) = judge (λ n. cond (same n w) 0 2) close_name >> spaces >> byte greater_than 2 >> ret tt in
      (closes-ret (λ b. tt) (closes-last (judge (λ n. cond (same n w) 0 2) close_name >> spaces) (λ a. byte-closes))).at s u r (settle-done missing (p.run s) s u r e);
}

-- ---- the end of an element that holds elements

module _ {C : Type 0} (end : G (Unit {0})) (fault : List ℕ → ℕ) (body : List ℕ → G C) (ends : Closes end) where
  markup-close : (a b : ℕ) (s r : List ℕ) → (markup end fault body a b).run s ≡ done close r → Ended s r
  markup-close a b s r e = go (eqb b slash) (eqb b exclamation) (eqb b question) e
    where
      inner : G (Part C)
      inner = seq (judge fault open_name) (λ w. seq (body w) (λ v. ret (child v)))

      go : (v w z : Bool) → (cond v (end >> ret close) (cond w (comment >> ret misc) (cond z (bad 3) inner))).run s ≡ done close r → Ended s r
      go true w z f = (closes-ret (λ u. close) ends).at s close r f
      go false true z f = let i = bind_inv comment.run (λ u. ret_p misc) s close r f in nope (cc i.3)
      go false false true f = nope cc
      go false false false f =
          let i = bind_inv (judge fault open_name).run (λ w. (seq (body w) (λ v. ret (child v))).run) s close r f in
          let j = bind_inv (body i.0).run (λ v. ret_p (child v)) i.1 close r i.3 in
          nope (cc j.3)

  between-close : (s r : List ℕ) → (between end fault body).run s ≡ done close r → Ended s r
  unfolding between
  between-close [] r e = nope cc
  between-close (b ∷ s) r e = go (is_space b) (eqb b less_than) (eqb b ampersand) e
    where
      two : (s : List ℕ) → (look_two (markup end fault body)).run s ≡ done close r → Ended s r
      two [] f = nope cc
      two (x ∷ []) f = nope cc
      two (x ∷ y ∷ s) f = markup-close x y (x ∷ y ∷ s) r (strict-inv (markup end fault body x y).run (x ∷ y ∷ s) close r f)

      go : (v w z : Bool) → (cond v (eat >> ret misc) (cond w (look_two (markup end fault body)) (cond z (settle 5 entity >> bad 5) (bad 5)))).run (b ∷ s) ≡ done close r → Ended (b ∷ s) r
      go true w z f = nope cc
      go false true z f = two (b ∷ s) f
      go false false true f = let i = bind_inv (settle 5 entity).run (λ u. (bad {A = Part C} 5).run) (b ∷ s) close r f in nope (cc i.3)
      go false false false f = nope cc

pub held-closes : {S : Type 0} (h : Holder S) (st : S) → Closes (held h st)
held-closes {S} h st =
    closes-loop (λ st. seq (between (end_tag h.name (h.missing st)) (h.fault st) (h.body st)) (λ p. ret (after_part st p))) turn st
  where
    by : (st : S) (s : List ℕ) (b : S) (r : List ℕ) (p : Part S) (u : List ℕ) → (between (end_tag h.name (h.missing st)) (h.fault st) (h.body st)).run s ≡ done p u
        → done (after_part st p) u ≡ done (last b) r → Ended s r
    by st s b r misc u q z = nope cc
    by st s b r (child v) u q z = nope cc
    by st s b r close u q z =
        let y : u ≡ r = cc in
        between-close (end_tag h.name (h.missing st)) (h.fault st) (h.body st) (end_tag-closes h.name (h.missing st)) s r (q ∙ ap (done close) y)

    turn : (st : S) (s : List ℕ) (b : S) (r : List ℕ)
        → (seq (between (end_tag h.name (h.missing st)) (h.fault st) (h.body st)) (λ p. ret (after_part st p))).run s ≡ done (last b) r → Ended s r
    turn st s b r e =
        let i = bind_inv (between (end_tag h.name (h.missing st)) (h.fault st) (h.body st)).run (λ p. ret_p (after_part st p)) s (last b) r e in
        by st s b r i.0 i.1 i.2 i.3
