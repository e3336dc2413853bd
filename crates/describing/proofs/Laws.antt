-- The way to a node's first child, by the next tag. Assumes nothing.
use mathlib.Core.Path.{◌≡◌, refl, sym, ap, ◌∙◌}
use mathlib.Core.List.{List}
use Prim.Native.Nat.{ℕ, ◌+◌}
use lib.ListN.{drop}
use Rattle.grammar.specs.Parse.{Out, done, fault, cut, Parser, Turn, then_out, ret_p, judge_out, loop_p}
use Rattle.grammar.specs.Grammar.{ret}
use Rattle.grammar.specs.Laws.{nope, loop-last, loop-fault, loop-cut}
use Rattle.xml.specs.Xml.{stray_end, close_name}
use Rattle.xml.specs.Elements.{Part, between}
use Rattle.xml.specs.Code.{part}
use Rattle.std.specs.Prelude.{Result, Ok, Err, Some, None}
use Rattle.std.specs.Result.{result_ok}
use Rattle.xml.specs.declared.Stop.{Stop}
use Rattle.xml.specs.declared.Stop.TheVariants as Stops
use Rattle.markup.specs.Next.{Behind}
use Rattle.markup.specs.declared.Item.{Item}
use Rattle.markup.specs.declared.Item.TheVariants as Items
use Rattle.markup.proofs.Next.{loop-passed}
use Rattle.markup.specs.Between.{between-misc, between-fault, between-cut, between-child, between-end-fault, between-end-cut}
use Rattle.tags.specs.Code.{part_in}
use Rattle.tags.proofs.Words.{part_in_lem}
use Rattle.clf.specs.Description.{to_first, first_child, description_tag, no_part, text_part}
use Rattle.describing.specs.Code.{behind_tag}

-- ---- what `ok()` tells of an answer

module _ {T E : Type 0} where
  pub when-ok : (r : Result T E) (x : T) → Some x ≡ result_ok r → r ≡ Ok x
  when-ok (Ok y) x q = let z : x ≡ y = cc in ap Ok (sym z)
  when-ok (Err e) x q = nope cc

  -- what holds of an answer that is an error, whichever it is
  pub when-none : (P : Result T E → Type 0) (Q : Type 0) → ((e : E) → P (Err e) → Q) → (r : Result T E) → None ≡ result_ok r → P r → Q
  when-none P Q f (Ok y) q h = nope cc
  when-none P Q f (Err e) q h = f e h

-- ---- the first child

abbrev between_is : Parser (Part (List ℕ))
between_is = (between stray_end (λ w. 0) (λ w. ret w)).run

abbrev after : Out (Part (List ℕ)) → Out (Turn (Unit {0}) (List ℕ))
after o = then_out o (λ p. ret_p (to_first p))

abbrev turn : Unit {0} → Parser (Turn (Unit {0}) (List ℕ))
turn st u = after (between_is u)

abbrev behind_first : List ℕ → Out (List ℕ) → ℕ × ℕ
behind_first s o = text_part s (then_out o (λ w. (description_tag w).run))

module _ (s : List ℕ) (at i : ℕ) where
  -- behind white space and comments
  first_run : {item : Result Item Stop} → Behind s at item i → first_child.run (drop at s) ≡ loop_p turn tt (drop i s)
  unfolding first_child
  first_run b = loop-passed s at turn tt (λ j e l. ap after (between-misc stray_end (λ w. 0) (λ w. ret w) s j e l)) b.passed

  found : {item : Result Item Stop} → Behind s at item i → (o : Out (List ℕ)) → loop_p turn tt (drop i s) ≡ o → text_part s (behind_tag (drop at s)) ≡ behind_first s o
  found b o q = ap (behind_first s) (first_run b ∙ q)

  faulty : {item : Result Item Stop} → Behind s at item i → (k : ℕ) (r : List ℕ) → between_is (drop i s) ≡ fault k r → text_part s (behind_tag (drop at s)) ≡ no_part
  faulty b k r q = found b (fault k r) (loop-fault turn tt (drop i s) k r (ap after q))

  short : {item : Result Item Stop} → Behind s at item i → between_is (drop i s) ≡ cut → text_part s (behind_tag (drop at s)) ≡ no_part
  short b q = found b cut (loop-cut turn tt (drop i s) (ap after q))

  pub first-open : (e : ℕ) → Behind s at (Ok (Items.StartTag e)) i → text_part s (behind_tag (drop at s)) ≡ text_part s ((description_tag (part_in s (i + 1) e)).run (drop e s))
  first-open e b =
      found b (done (part s (i + 1) e) (drop e s)) (loop-last turn tt (drop i s) (part s (i + 1) e) (drop e s)
      (ap after (between-child stray_end (λ w. 0) (λ w. ret w) s i e b.reads refl (part s (i + 1) e) (drop e s) refl)))
      ∙ ap (λ (w : List ℕ). text_part s ((description_tag w).run (drop e s))) (part_in_lem s (i + 1) e b.reads.inside.1)

  -- what is at fault or cut short
  pub first-none : (x : Stop) → Behind s at (Err x) i → text_part s (behind_tag (drop at s)) ≡ no_part
  first-none (Stops.Fault k p) b = faulty b k (drop p s) (between-fault stray_end (λ w. 0) (λ w. ret w) s i k p b.reads)
  first-none Stops.Cut b = short b (between-cut stray_end (λ w. 0) (λ w. ret w) s i b.reads)

  -- the node's end tag: it has no child
  pub first-end : Behind s at (Ok Items.EndTag) i → text_part s (behind_tag (drop at s)) ≡ no_part
  unfolding stray_end
  first-end b = by (close_name.run (drop i s)) refl
    where
      stray : Out (List ℕ) → Out (Unit {0})
      stray o = then_out (judge_out (λ n. 2) o (drop i s)) (λ n. ret_p tt)

      by : (o : Out (List ℕ)) → close_name.run (drop i s) ≡ o → text_part s (behind_tag (drop at s)) ≡ no_part
      by (done w r) q = faulty b 2 (drop i s) (between-end-fault stray_end (λ w. 0) (λ w. ret w) s i b.reads 2 (drop i s) (ap stray q))
      by (fault k r) q = faulty b k r (between-end-fault stray_end (λ w. 0) (λ w. ret w) s i b.reads k r (ap stray q))
      by cut q = short b (between-end-cut stray_end (λ w. 0) (λ w. ret w) s i b.reads (ap stray q))
