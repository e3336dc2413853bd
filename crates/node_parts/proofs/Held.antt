-- The content of an element that holds elements, part by part: the turns of a loop that reads it, for any holder. Assumes nothing.
use mathlib.Core.Path.{◌≡◌, refl, sym, ap, ◌∙◌, subst}
use mathlib.Core.Bool.{Bool, true, false, cond}
use mathlib.Core.List.{List}
use Prim.Native.Nat.{ℕ, zero, suc, ◌+◌, ◌≤◌, ◌<◌, min}
use native.Mathlib.Omega.{arith}
use lib.ListN.{length, drop, length-drop}
use borrow.Author.Tests.{lt-ltb}
use Rattle.grammar.specs.Parse.{Out, done, fault, cut, Parser, Turn, then_out, bind_p, ret_p, strict_out, judged_to, settle_out, same_place, loop_p}
use Rattle.grammar.specs.Grammar.{G}
use Rattle.grammar.specs.Laws.{loop-again, loop-last, loop-fault, loop-cut, nope}
use Rattle.xml.specs.Xml.{end_tag}
use Rattle.xml.specs.Elements.{Part, child, close, between, Holder, after_part, held_part, held}
use Rattle.xml.specs.Code.{part, scan_out, Inside, Reads, no_value, Failed}
use Rattle.xml.specs.Code.{Scan}
use Rattle.std.specs.Prelude.{Result, Ok, Err}
use Rattle.xml.specs.declared.Stop.{Stop}
use Rattle.xml.specs.declared.Stop.TheVariants.{Fault, Cut}
use Rattle.tags.specs.Code.{part_in}
use Rattle.tags.proofs.Words.{part_in_lem}
use Rattle.markup.specs.Items.{ItemInside, ItemReads}
use Rattle.markup.specs.Settled.{end_alone}
use Rattle.markup.specs.Between.{by_item, between-item, between-misc, between-failed, between-end-reads}
use Rattle.markup.specs.Next.{Behind}
use Rattle.markup.proofs.Next.{passed-low, loop-passed}
use Rattle.markup.specs.declared.Item.{Item}
use Rattle.markup.specs.declared.Item.TheVariants as Items
use Rattle.node_parts.specs.Held.{Went, child_out, Child, Goes, HeldAt, ReadsTo}

-- ---- an end tag before which something lacks is never done

lacks : (k : ℕ) (o : Out (Unit {0})) (s r : List ℕ) → done tt r ≡ settle_out (suc k) o s → ⊥
lacks k (done a u) s r q = nope cc
lacks k (fault j u) s r q = go (same_place u s) q
  where
    go : (b : Bool) → ◌≡◌ {A = Out (Unit {0})} (done (tt {0}) r) (cond b (fault (min (suc k) j) s) (fault (suc k) s)) → ⊥
    go true q = nope cc
    go false q = nope cc
lacks k cut s r q = nope cc

pub end-lacks : (w : List ℕ) (k n : ℕ) (s : List ℕ) (at e : ℕ) → (k ≡ 0 → ⊥) → Reads n (end_tag w k).run no_value s at (Ok e) → ⊥
unfolding end_tag
end-lacks w zero n s at e z v = z refl
end-lacks w (suc k) n s at e z v = lacks k ((end_alone w).run (drop at s)) (drop at s) (drop e s) v.out

-- both are known
pub went-both : (r : Scan) (A B : Type 0) → A → B → Went r A B
went-both (Ok e) A B a b = a
went-both (Err x) A B a b = b

module _ {S : Type 0} (h : Holder S) where
  -- ---- a child of the name w

  module _ (st : S) (s : List ℕ) (at e : ℕ) (w : List ℕ) (n : w ≡ part_in s (at + 1) e) (l : at + 2 ≤ e) (m : e ≤ length s) (R : S → Type 0) (F : Type 0) where
    named : (k : ℕ) → h.fault st w ≡ k
        → child_out k (h.body st w).run (drop e s) (drop at s) ≡ child_out (h.fault st (part s (at + 1) e)) (h.body st (part s (at + 1) e)).run (drop e s) (drop at s)
    named k q =
        sym (ap (λ (i : ℕ). child_out i (h.body st w).run (drop e s) (drop at s)) q)
        ∙ ap (λ (v : List ℕ). child_out (h.fault st v) (h.body st v).run (drop e s) (drop at s)) (n ∙ sym (part_in_lem s (at + 1) e m))

    -- its name is at fault
    pub child-refused : (k : ℕ) → h.fault st w ≡ k → (k ≡ 0 → ⊥) → F → Goes h st s at e (Err (Fault k at)) R F
    child-refused zero q z f = absurd (z refl)
    child-refused (suc k) q z f = record { to = st; child = record { out = named (suc k) q; inside = (omega arith, omega arith) }; left = f }

    -- it is not
    pub child-body : (r : Scan) → h.fault st w ≡ 0 → ReadsTo (h.body st w).run s e r R F → Goes h st s at e r R F
    child-body r q v = record { to = v.value; child = record { out = v.reads.out ∙ named 0 q; inside = go r v.reads.inside }; left = v.left }
      where
        go : (r : Scan) → Inside 1 s e r → Inside 1 s at r
        go (Ok q) i = (omega arith, i.1)
        go (Err (Fault k q)) i = (omega arith, i.1)
        go (Err Cut) i = tt

  -- ---- a turn

  module _ (st : S) (s : List ℕ) (i : ℕ) where
    abbrev end : G (Unit {0})
    end = end_tag h.name (h.missing st)

    abbrev parts : S → Parser (Turn S S)
    parts v = (held_part h v).run

    -- the bytes from e on are fewer
    fewer : (e : ℕ) → i + 1 ≤ e → e ≤ length s → length (drop e s) < length (drop i s)
    fewer e l m = simp length-drop (omega arith)

    abbrev after : Out (Part S) → Out (Turn S S)
    after o = then_out o (λ p. ret_p (after_part st p))

    -- at what stops the search for a tag
    turn-stops : (value : ℕ → S) (x : Stop) → ItemReads s i (Err x) → loop_p parts st (drop i s) ≡ scan_out value s (Err x)
    turn-stops value (Fault k p) v =
        loop-fault parts st (drop i s) k (drop p s) (ap after (between-failed end (h.fault st) (h.body st) s i (λ q. close) (Fault k p) v))
    turn-stops value Cut v = loop-cut parts st (drop i s) (ap after (between-failed end (h.fault st) (h.body st) s i (λ q. close) Cut v))

    -- at an end tag, which answers r
    turn_end : (r : Scan) → ItemReads s i (Ok Items.EndTag) → Reads 1 end.run no_value s i r → loop_p parts st (drop i s) ≡ scan_out (λ q. st) s r
    turn_end r v w = go r (between-end-reads end (h.fault st) (h.body st) s i v r w)
      where
        go : (r : Scan) → (between end (h.fault st) (h.body st)).run (drop i s) ≡ scan_out (λ e. close) s r → loop_p parts st (drop i s) ≡ scan_out (λ q. st) s r
        go (Ok e) q = loop-last parts st (drop i s) st (drop e s) (ap after q)
        go (Err (Fault k p)) q = loop-fault parts st (drop i s) k (drop p s) (ap after q)
        go (Err Cut) q = loop-cut parts st (drop i s) (ap after q)

    -- at a child, by its answer
    module _ (e : ℕ) (v : ItemReads s i (Ok (Items.StartTag e))) (st' : S) where
      abbrev w : List ℕ
      w = part s (i + 1) e

      same : (k : ℕ) → strict_out (then_out (judged_to k w (drop e s) (drop i s)) (λ n. bind_p (h.body st n).run (λ v. ret_p (child v)))) (drop i s)
          ≡ strict_out (then_out (child_out k (h.body st w).run (drop e s) (drop i s)) (λ v. ret_p (child v))) (drop i s)
      same zero = refl
      same (suc k) = refl

      opened : (r : Scan) → Child h st s i e st' r
          → (between end (h.fault st) (h.body st)).run (drop i s) ≡ strict_out (then_out (scan_out (λ q. st') s r) (λ v. ret_p (child v))) (drop i s)
      opened r c =
          between-item end (h.fault st) (h.body st) (drop i s) ∙ ap (by_item end (h.fault st) (h.body st) (drop i s)) (sym v.out) ∙ same (h.fault st w)
          ∙ ap (λ (o : Out S). strict_out (then_out o (λ v. ret_p (child v))) (drop i s)) (sym c.out)

      strict : (q : ℕ) → i + 1 ≤ q → q ≤ length s → strict_out (done (child st') (drop q s)) (drop i s) ≡ done (child st') (drop q s)
      strict q l m = ap (λ (t : Bool). cond t (done (child st') (drop q s)) cut) (lt-ltb (length (drop q s)) (length (drop i s)) (fewer q l m))

      turn-child : (q : ℕ) → Child h st s i e st' (Ok q) → loop_p parts st (drop i s) ≡ loop_p parts st' (drop q s)
      turn-child q c =
          loop-again parts st (drop i s) st' (drop q s) (ap after (opened (Ok q) c ∙ strict q c.inside.0 c.inside.1)) (fewer q c.inside.0 c.inside.1)

      turn-failed : (value : ℕ → S) (r : Scan) → Failed r → Child h st s i e st' r → loop_p parts st (drop i s) ≡ scan_out value s r
      turn-failed value (Ok q) f c = absurd f
      turn-failed value (Err (Fault k p)) f c = loop-fault parts st (drop i s) k (drop p s) (ap after (opened (Err (Fault k p)) c))
      turn-failed value (Err Cut) f c = loop-cut parts st (drop i s) (ap after (opened (Err Cut) c))

  -- ---- the loop

  pub held_start : (st₀ : S) (s : List ℕ) (at : ℕ) (R : S → Type 0) → R st₀ → HeldAt h st₀ s at at R
  held_start st₀ s at R r = record { st = st₀; low = omega arith; same = refl; stands = r }

  module _ (st₀ : S) (s : List ℕ) (at i : ℕ) (R : S → Type 0) (v : HeldAt h st₀ s at i R) where
    -- behind white space and comments
    on : {item : Result Item Stop} {j : ℕ} → Behind s i item j → (held h st₀).run (drop at s) ≡ (held h v.st).run (drop j s)
    on b =
        v.same ∙ loop-passed s i (λ x. (held_part h x).run) v.st
        (λ j e l. ap (after v.st s j) (between-misc (end_tag h.name (h.missing v.st)) (h.fault v.st) (h.body v.st) s j e l)) b.passed

    from : (n : ℕ) {item : Result Item Stop} {j : ℕ} → Behind s i item j → (r : Scan) → Inside n s j r → Inside n s at r
    from n b (Ok e) k = (omega (arith, v.low, passed-low s i b.passed), k.1)
    from n b (Err (Fault x p)) k = (omega (arith, v.low, passed-low s i b.passed), k.1)
    from n b (Err Cut) k = tt

    -- a child, with the answer r
    module _ (j e : ℕ) (l : Behind s i (Ok (Items.StartTag e)) j) (r : Scan) (R₂ : S → Type 0) (F : Type 0) (g : (st : S) → R st → Goes h st s j e r R₂ F) where
      abbrev went : Goes h v.st s j e r R₂ F
      went = g v.st v.stands

      inside : (q : ℕ) → r ≡ Ok q → (j + 1 ≤ q) × (q ≤ length s)
      inside q z = subst (λ (x : Scan). Inside 1 s j x) z went.child.inside

      pub held-moves : (q : ℕ) → r ≡ Ok q → (i + 1 ≤ q) × (q ≤ length s)
      held-moves q z = (omega (arith, inside q z, passed-low s i l.passed), (inside q z).1)

      pub held-child : (q : ℕ) → r ≡ Ok q → HeldAt h st₀ s at q R₂
      held-child q z =
          record {
            st = went.to;
            low = omega (arith, v.low, held-moves q z);
            same = on l ∙ turn-child v.st s j e l.reads went.to q (subst (λ (x : Scan). Child h v.st s j e went.to x) z went.child);
            stands = subst (λ (x : Scan). Went x (R₂ went.to) F) z went.left;
          }

      left_over : (r : Scan) (A : Type 0) → Failed r → Went r A F → (B : Type 0) → Went r B F
      left_over (Ok q) A f z B = absurd f
      left_over (Err x) A f z B = z

      pub held-failed : (R₃ : S → Type 0) → Failed r → ReadsTo (held h st₀).run s at r R₃ F
      held-failed R₃ f = record {
        value = v.st;
        reads = record { out = sym (on l ∙ turn-failed v.st s j e l.reads went.to (λ q. v.st) r f went.child); inside = from 1 l r went.child.inside };
        left = left_over r (R₂ went.to) f went.left (R₃ v.st);
      }

    module _ (R₂ : S → Type 0) (F : Type 0) where
      -- the end tag
      pub held-end : (j : ℕ) (r : Scan) → Behind s i (Ok Items.EndTag) j → ((st : S) → R st → Reads 1 (end_tag h.name (h.missing st)).run no_value s j r × Went r (R₂ st) F)
          → ReadsTo (held h st₀).run s at r R₂ F
      held-end j r l g =
          let w : Reads 1 (end_tag h.name (h.missing v.st)).run no_value s j r × Went r (R₂ v.st) F = g v.st v.stands in
          record {
            value = v.st;
            reads = record { out = sym (on l ∙ turn_end v.st s j r l.reads w.0); inside = from 1 l r w.0.inside };
            left = w.1;
          }

      -- none of these: x stops the search
      pub held_none : (j : ℕ) (x : Stop) → Behind s i (Err x) j → F → ReadsTo (held h st₀).run s at (Err x) R₂ F
      held_none j x l f = record {
        value = v.st;
        reads = record { out = sym (on l ∙ turn-stops v.st s j (λ q. v.st) x l.reads); inside = from 1 l (Err x) (go x l.reads.inside) };
        left = f;
      }
        where
          go : (x : Stop) → ItemInside s j (Err x) → Inside 1 s j (Err x)
          go (Fault k p) i = i
          go Cut i = tt
