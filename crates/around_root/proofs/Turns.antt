-- What stands before the root and behind it, by the next tag. Assumes nothing.
use mathlib.Core.Path.{◌≡◌, refl, sym, ap, ◌∙◌}
use mathlib.Core.Bool.{Bool, true, false, cond}
use mathlib.Core.List.{List, [], ◌∷◌}
use Prim.Native.Nat.{ℕ, ◌+◌, ◌≤◌, ◌<◌}
use native.Mathlib.Omega.{arith}
use lib.ListN.{length, drop, length-drop, drop_of_length-le}
use Rattle.grammar.specs.Parse.{Out, done, fault, cut, Parser, Turn, then_out, ret_p, blame_out, loop_p}
use Rattle.grammar.specs.Laws.{nope, loop-last, loop-fault, loop-cut}
use Rattle.grammar.specs.Grammar.{G, ret, bad}
use Rattle.xml.specs.Xml.{stray_end, word}
use Rattle.xml.specs.Elements.{Part, close, between}
use Rattle.xml.specs.Bytes.{bytes, same}
use Rattle.xml.specs.Code.{Reads, ReadsFrom, Inside, scan_out, no_value, part, Failed, blamed_scan}
use Rattle.xml.specs.Code.{Scan}
use Rattle.std.specs.Prelude.{Result, Ok, Err}
use Rattle.xml.specs.declared.Stop.{Stop}
use Rattle.xml.specs.declared.Stop.TheVariants.{Fault, Cut}
use Rattle.markup.specs.Next.{Passed, Behind}
use Rattle.markup.specs.Items.{ItemInside}
use Rattle.markup.specs.declared.Item.{Item}
use Rattle.markup.specs.declared.Item.TheVariants as Items
use Rattle.markup.proofs.Next.{passed-low, passed-high, loop-passed}
use Rattle.markup.proofs.Tags.{stray-failed}
use Rattle.markup.specs.Between.{between-misc, between-failed, between-refused, between-child, between-end-reads}
use Rattle.tags.proofs.Words.{part_in_lem}
use Rattle.around_root.specs.Code.{root_scan, before_root}
use Rattle.clf.specs.List.{declaration, root_fault, to_root, prologue, onward, tail_part, tail}

-- ---- before the root

stop-inside : (s : List ℕ) (i : ℕ) (x : Stop) → ItemInside s i (Err x) → Inside 1 s i (Err x)
stop-inside s i (Fault k p) n = n
stop-inside s i Cut n = tt

abbrev before_root_lem : G (Part (List ℕ))
before_root_lem = between stray_end root_fault (λ w. ret w)

abbrev after : Out (Part (List ℕ)) → Out (Turn (Unit {0}) (Unit {0}))
after o = then_out o (λ p. ret_p (to_root p))

abbrev to_root_p : Unit {0} → Parser (Turn (Unit {0}) (Unit {0}))
to_root_p v u = after (before_root_lem.run u)

module _ (s : List ℕ) (at i : ℕ) where
  -- behind white space and comments
  root-run : {item : Result Item Stop} → Behind s at item i → prologue.run (drop at s) ≡ loop_p to_root_p tt (drop i s)
  unfolding prologue
  root-run b = loop-passed s at to_root_p tt (λ j e l. ap after (between-misc stray_end root_fault (λ w. ret w) s j e l)) b.passed

  root-stops : {item : Result Item Stop} → Behind s at item i → (r : Scan) → Failed r → before_root_lem.run (drop i s) ≡ scan_out (λ e. close) s r → Inside 1 s i r
      → Reads 1 prologue.run no_value s at r
  root-stops b (Ok e) f q n = absurd f
  root-stops b (Err (Fault k p)) f q n = record {
    out = sym (root-run b ∙ loop-fault to_root_p tt (drop i s) k (drop p s) (ap after q));
    inside = (omega (arith, passed-low s at b.passed, n.0), n.1);
  }
  root-stops b (Err Cut) f q n = record { out = sym (root-run b ∙ loop-cut to_root_p tt (drop i s) (ap after q)); inside = tt }

  pub root-end : Behind s at (Ok Items.EndTag) i → (r : Scan) → Reads 1 stray_end.run no_value s i r → Reads 1 prologue.run no_value s at r
  root-end b r v = root-stops b r (stray-failed s i r v) (between-end-reads stray_end root_fault (λ w. ret w) s i b.reads r v) v.inside

  -- what is at fault or cut short
  pub root_none : (x : Stop) → Behind s at (Err x) i → Reads 1 prologue.run no_value s at (Err x)
  root_none x b = root-stops b (Err x) tt (between-failed stray_end root_fault (λ w. ret w) s i (λ e. close) x b.reads) (stop-inside s i x b.reads.inside)

  -- a start tag: the root's own, or 5
  pub root-open : (e : ℕ) → Behind s at (Ok (Items.StartTag e)) i → Reads 1 prologue.run no_value s at (root_scan s i e)
  unfolding root_scan
  root-open e b = rw (← part_in_lem s (i + 1) e b.reads.inside.1) (by (same (part s (i + 1) e) (bytes "ProcessList")) refl)
    where
      by : (t : Bool) → same (part s (i + 1) e) (bytes "ProcessList") ≡ t → Reads 1 prologue.run no_value s at (cond t (Ok e) (Err (Fault 5 i)))
      by true q = record {
        out = sym (root-run b ∙ loop-last to_root_p tt (drop i s) tt (drop e s)
            (ap after (between-child stray_end root_fault (λ w. ret w) s i e b.reads (ap (λ (t : Bool). cond t 0 5) q) (part s (i + 1) e) (drop e s) refl)));
        inside = (omega (arith, passed-low s at b.passed, b.reads.inside), b.reads.inside.1);
      }
      by false q =
          root-stops b (Err (Fault 5 i)) tt (between-refused stray_end root_fault (λ w. ret w) s i e b.reads 5 (ap (λ (t : Bool). cond t 0 5) q) (λ z. omega arith))
          (omega arith, omega (arith, b.reads.inside))

-- ---- behind the root

abbrev behind-root : G (Part (Unit {0}))
behind-root = between stray_end (λ w. 5) (λ w. bad 5)

abbrev tail_p : Unit {0} → Parser (Turn (Unit {0}) (Unit {0}))
tail_p v = tail_part

-- where there is a byte, the tail's part is what stands there
tail-here : (s : List ℕ) (i : ℕ) → i < length s → tail_part (drop i s) ≡ onward (behind-root.run (drop i s))
tail-here s i h = go (drop i s) refl
  where
    go : (l : List ℕ) → drop i s ≡ l → tail_part l ≡ onward (behind-root.run l)
    go [] q = absurd (omega (arith, length-drop i s, ap length q))
    go (b ∷ r) q = refl

module _ (s : List ℕ) (at i : ℕ) where
  tail-run : Passed s at i → tail (drop at s) ≡ loop_p tail_p tt (drop i s)
  unfolding tail
  tail-run p =
      loop-passed s at tail_p tt (λ j e l. tail-here s j (omega (arith, l.inside)) ∙ ap onward (between-misc stray_end (λ w. 5) (λ w. bad 5) s j e l)) p

  tail-stops : {item : Result Item Stop} → Behind s at item i → i < length s → (r : Scan) → Failed r → behind-root.run (drop i s) ≡ scan_out (λ e. close) s r → Inside 1 s i r
      → ReadsFrom 0 tail no_value s at r
  tail-stops b g (Ok e) f q n = absurd f
  tail-stops b g (Err (Fault k p)) f q n = record {
    out = sym (tail-run b.passed ∙ loop-fault tail_p tt (drop i s) k (drop p s) (tail-here s i g ∙ ap onward q));
    inside = λ x. (omega (arith, passed-low s at b.passed, n.0), n.1);
    beyond = λ x. absurd (omega (arith, passed-low s at b.passed));
  }
  tail-stops b g (Err Cut) f q n = record { out = sym (tail-run b.passed ∙ loop-cut tail_p tt (drop i s) (tail-here s i g ∙ ap onward q)); inside = λ x. tt; beyond = λ x. tt }

  pub tail-open : (e : ℕ) → Behind s at (Ok (Items.StartTag e)) i → ReadsFrom 0 tail no_value s at (Err (Fault 5 i))
  tail-open e b =
      tail-stops b (omega (arith, b.reads.inside)) (Err (Fault 5 i)) tt (between-refused stray_end (λ w. 5) (λ w. bad 5) s i e b.reads 5 refl (λ z. omega arith))
      (omega arith, omega (arith, b.reads.inside))

  pub tail-end : Behind s at (Ok Items.EndTag) i → (r : Scan) → Reads 1 stray_end.run no_value s i r → ReadsFrom 0 tail no_value s at r
  tail-end b r v =
      tail-stops b (omega (arith, b.reads.inside)) r (stray-failed s i r v) (between-end-reads stray_end (λ w. 5) (λ w. bad 5) s i b.reads r v) v.inside

  -- what is at fault or cut short
  pub tail_none : (x : Stop) → i < length s → Behind s at (Err x) i → ReadsFrom 0 tail no_value s at (Err x)
  tail_none x g b = tail-stops b g (Err x) tt (between-failed stray_end (λ w. 5) (λ w. bad 5) s i (λ e. close) x b.reads) (stop-inside s i x b.reads.inside)

  -- the bytes end
  pub tail-past : Passed s at i → length s ≤ i → ReadsFrom 0 tail no_value s at (Ok i)
  tail-past p h = record {
    out = ap (λ (l : List ℕ). done tt l) (drop_of_length-le s h) ∙ sym (tail-run p ∙ loop-last tail_p tt (drop i s) tt [] (ap tail_part (drop_of_length-le s h)));
    inside = λ x. (omega (arith, passed-low s at p), omega (arith, passed-high s at p));
    beyond = λ x. omega (arith, passed-low s at p, passed-high s at p);
  }

-- ---- the declaration

module _ (s : List ℕ) where
  declared : (o : Out (Unit {0})) → (word declaration 3).run (drop 0 s) ≡ o → before_root (drop 0 s) ≡ then_out (blame_out o (drop 0 s)) (λ u. prologue.run)
  unfolding before_root
  declared o q = ap (λ (x : Out (Unit {0})). then_out (blame_out x (drop 0 s)) (λ u. prologue.run)) q

  onward-inside : (e : ℕ) (r : Scan) → Inside 1 s e r → Inside 1 s 0 r
  onward-inside e (Ok q) b = (omega (arith, b.0), b.1)
  onward-inside e (Err (Fault k p)) b = (omega arith, b.1)
  onward-inside e (Err Cut) b = tt

  module _ (n : ℕ) (w : Scan) (h : ReadsFrom n (word declaration 3).run no_value s 0 w) where
    pub before-declared : (e : ℕ) (r : Scan) → Ok e ≡ blamed_scan w 0 → Reads 1 prologue.run no_value s e r → Reads 1 before_root no_value s 0 r
    before-declared e r q k = go w q h
      where
        go : (w : Scan) → Ok e ≡ blamed_scan w 0 → ReadsFrom n (word declaration 3).run no_value s 0 w → Reads 1 before_root no_value s 0 r
        go (Ok a) q h =
            let z : a ≡ e = cc in
            record { out = k.out ∙ sym (declared (done tt (drop e s)) (rw (← z) (sym h.out))); inside = onward-inside e r k.inside }
        go (Err (Fault k p)) q h = nope cc
        go (Err Cut) q h = nope cc

    pub before-other : (x : Stop) → Err x ≡ blamed_scan w 0 → Reads 1 before_root no_value s 0 (Err x)
    before-other x q = rw q (go w q h)
      where
        go : (w : Scan) → Err x ≡ blamed_scan w 0 → ReadsFrom n (word declaration 3).run no_value s 0 w → Reads 1 before_root no_value s 0 (blamed_scan w 0)
        go (Ok a) q h = nope cc
        go (Err (Fault k p)) q h = record { out = sym (declared (fault k (drop p s)) (sym h.out)); inside = (omega arith, omega arith) }
        go (Err Cut) q h = record { out = sym (declared cut (sym h.out)); inside = tt }
