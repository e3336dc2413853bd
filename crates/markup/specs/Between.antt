-- What stands between elements, by the answer of its first bytes: the laws by which a loop over an element's content is read off `item_at`. Assumes nothing.
use Rattle.std.specs.Prelude.{◌≡◌, Bool, true, false, cond, ℕ, suc, ◌+◌, ◌≤◌, ◌<◌, min, length, drop, eqb}
use Rattle.std.proofs.Math.Path.{refl}
use Rattle.std.proofs.Common.{sym, ap, ◌∙◌, arith, length-drop, length-append, lt-ltb}
use mathlib.Core.List.{List, [], ◌∷◌, append-nil}
use Rattle.grammar.specs.Parse.{Out, done, fault, cut, then_out, bind_p, ret_p, strict_out, strict_p, look_two_p, judged_to, judge_out, settle_out, settle_p, bad_p, same_place}
use Rattle.grammar.specs.Grammar.{G, ret, bad, look_two, judge, settle, eat, seq, ◌>>◌}
use Rattle.grammar.specs.Laws.{StrongPrefix, cuts, faults, dones, follows-refl, nope}
use Rattle.xml.specs.Bytes.{is_space, less_than, slash, exclamation, question, ampersand}
use Rattle.xml.specs.Xml.{comment, entity, open_name}
use Rattle.xml.specs.Elements.{Part, misc, child, close, markup, between}
use Rattle.xml.specs.Code.{part, scan_out, Reads, no_value}
use Rattle.xml.specs.Code.{Scan}
use Rattle.std.specs.Prelude.{Result, Ok, Err}
use Rattle.xml.specs.declared.Stop.{Stop}
use Rattle.xml.specs.declared.Stop.TheVariants as Stops
use Rattle.xml.specs.CodeLaws.{verdict-well, verdict-ill}
use Rattle.markup.specs.Items.{ItemFound, passed, starts, ends, item_by_two, content_item, item_out, ItemReads}
use Rattle.markup.specs.declared.Item.{Item}
use Rattle.markup.specs.declared.Item.TheVariants as Items

-- what a grammar leaves is no longer than what it was given
pub leaves : {A : Type 0} (p : G A) (s : List ℕ) (a : A) (r : List ℕ) → p.run s ≡ done a r → length r ≤ length s
leaves p s a r q = go (p.law s)
  where
    go : StrongPrefix p.run s → length r ≤ length s
    go (cuts e) = nope cc
    go (faults k c u e h) = let z : p.run s ≡ fault k u = ap p.run (sym (append-nil s)) ∙ h [] ∙ ap (fault k) (append-nil u) in nope cc
    go (dones b c u e h) =
        let z : p.run s ≡ done b u = ap p.run e ∙ h u (follows-refl u) in
        let w : u ≡ r = cc in
        omega (arith, ap length e, length-append c u, ap length w)

module _ {C : Type 0} (end : G (Unit {0})) (refusal : List ℕ → ℕ) (body : List ℕ → G C) where
  -- the answer by that of the first bytes of s
  abbrev pub by_item : List ℕ → Out ItemFound → Out (Part C)
  by_item s (done passed r) = strict_out (done misc r) s
  by_item s (done (starts w) r) = strict_out (then_out (judged_to (refusal w) w r s) (λ n. bind_p (body n).run (λ v. ret_p (child v)))) s
  by_item s (done ends r) = strict_out (then_out (end.run s) (λ u. ret_p close)) s
  by_item s (fault k r) = fault k r
  by_item s cut = cut

  abbrev after_name : List ℕ → List ℕ → Out (Part C)
  after_name n = bind_p (body n).run (λ v. ret_p (child v))

  -- behind a `<`
  by-second : (u : List ℕ) (x y z : Bool)
      → strict_p (cond x (end >> ret close) (cond y (comment >> ret misc) (cond z (bad 3) (seq (judge refusal open_name) (λ w. seq (body w) (λ v. ret (child v))))))).run u
      ≡ by_item u (cond x (done ends u) (cond y (then_out (comment.run u) (λ w. ret_p passed)) (cond z (fault 3 u) (then_out (open_name.run u) (λ w. ret_p (starts w))))))
  by-second u true y z = refl
  by-second u false true z = go (comment.run u)
    where
      go : (o : Out (Unit {0})) → strict_out (then_out o (λ w. ret_p misc)) u ≡ by_item u (then_out o (λ w. ret_p passed))
      go (done w r) = refl
      go (fault k r) = refl
      go cut = refl
  by-second u false false true = refl
  by-second u false false false = go (open_name.run u)
    where
      go : (o : Out (List ℕ)) → strict_out (then_out (judge_out refusal o u) after_name) u ≡ by_item u (then_out o (λ w. ret_p (starts w)))
      go (done w r) = refl
      go (fault k r) = refl
      go cut = refl

  by_two : (b : ℕ) (s : List ℕ) → look_two_p (λ a c. (markup end refusal body a c).run) (b ∷ s) ≡ by_item (b ∷ s) (item_by_two (b ∷ s))
  by_two b [] = refl
  by_two b (c ∷ s) = by-second (b ∷ c ∷ s) (eqb c slash) (eqb c exclamation) (eqb c question)

  by_first : (b : ℕ) (s : List ℕ) (x y z : Bool)
      → (cond x (eat >> ret misc) (cond y (look_two (markup end refusal body)) (cond z (settle 5 entity >> bad 5) (bad 5)))).run (b ∷ s)
      ≡ by_item (b ∷ s) (cond x (done passed s) (cond y (item_by_two (b ∷ s)) (cond z (then_out (settle_p 5 entity.run (b ∷ s)) (λ u. ret_p passed)) (fault 5 (b ∷ s)))))
  by_first b s true y z = sym (ap (λ (t : Bool). cond t (done misc s) cut) (lt-ltb (length s) (suc (length s)) (omega arith)))
  by_first b s false true z = by_two b s
  by_first b s false false true = go (entity.run (b ∷ s))
    where
      same : (t : Bool) (k : ℕ) (u : List ℕ)
          → then_out {A = Unit {0}} (cond t (fault (min 5 k) u) (fault 5 u)) (λ w. bad_p 5) ≡ by_item u (then_out {A = Unit {0}} (cond t (fault (min 5 k) u) (fault 5 u)) (λ w. ret_p passed))
      same true k u = refl
      same false k u = refl

      go : (o : Out (Unit {0})) → then_out (settle_out 5 o (b ∷ s)) (λ u. bad_p 5) ≡ by_item (b ∷ s) (then_out (settle_out 5 o (b ∷ s)) (λ u. ret_p passed))
      go (done w r) = refl
      go (fault k r) = same (same_place r (b ∷ s)) k (b ∷ s)
      go cut = refl
  by_first b s false false false = refl

  -- what stands between elements is what its first bytes say
  pub between-item : (s : List ℕ) → (between end refusal body).run s ≡ by_item s (content_item s)
  unfolding between content_item
  between-item [] = refl
  between-item (b ∷ s) = by_first b s (is_space b) (eqb b less_than) (eqb b ampersand)

  -- ---- by the code's answer r for the first bytes at a place

  module _ (s : List ℕ) (at : ℕ) where
    by_answer : (r : Result Item Stop) → ItemReads s at r → (between end refusal body).run (drop at s) ≡ by_item (drop at s) (item_out s at r)
    by_answer r v = between-item (drop at s) ∙ ap (by_item (drop at s)) (sym v.out)

    moved : {A : Type 0} (a : A) (r : List ℕ) → length r < length (drop at s) → strict_out (done a r) (drop at s) ≡ done a r
    moved a r l = ap (λ (t : Bool). cond t (done a r) cut) (lt-ltb (length r) (length (drop at s)) l)

    pub between-misc : (e : ℕ) → ItemReads s at (Ok (Items.Misc e)) → (between end refusal body).run (drop at s) ≡ done misc (drop e s)
    between-misc e v = by_answer (Ok (Items.Misc e)) v ∙ moved misc (drop e s) (simp length-drop (omega (arith, v.inside)))

    pub between-failed : (value : ℕ → Part C) (stop : Stop) → ItemReads s at (Err stop) → (between end refusal body).run (drop at s) ≡ scan_out value s (Err stop)
    between-failed value (Stops.Fault k p) v = by_answer (Err (Stops.Fault k p)) v
    between-failed value Stops.Cut v = by_answer (Err Stops.Cut) v

    pub between-fault : (k p : ℕ) → ItemReads s at (Err (Stops.Fault k p)) → (between end refusal body).run (drop at s) ≡ fault k (drop p s)
    between-fault k p v = by_answer (Err (Stops.Fault k p)) v

    pub between-cut : ItemReads s at (Err Stops.Cut) → (between end refusal body).run (drop at s) ≡ cut
    between-cut v = by_answer (Err Stops.Cut) v

    -- ---- a start tag, whose name ends at e

    module _ (e : ℕ) (v : ItemReads s at (Ok (Items.StartTag e))) where
      abbrev w : List ℕ
      w = part s (at + 1) e

      pub between-refused : (k : ℕ) → refusal w ≡ k → (k ≡ 0 → ⊥) → (between end refusal body).run (drop at s) ≡ fault k (drop at s)
      between-refused k q z =
          by_answer (Ok (Items.StartTag e)) v
          ∙ ap (λ (o : Out (List ℕ)). strict_out (then_out o after_name) (drop at s))
          (ap (λ (n : ℕ). judged_to n w (drop e s) (drop at s)) q ∙ verdict-ill k w (drop e s) (drop at s) z)

      module _ (q : refusal w ≡ 0) where
        by-body : (o : Out C) → (body w).run (drop e s) ≡ o → (between end refusal body).run (drop at s) ≡ strict_out (then_out o (λ v. ret_p (child v))) (drop at s)
        by-body o x =
            by_answer (Ok (Items.StartTag e)) v
            ∙ ap (λ (o : Out (List ℕ)). strict_out (then_out o after_name) (drop at s)) (verdict-well (refusal w) w (drop e s) (drop at s) q)
            ∙ ap (λ (o : Out C). strict_out (then_out o (λ v. ret_p (child v))) (drop at s)) x

        pub between-child : (a : C) (r : List ℕ) → (body w).run (drop e s) ≡ done a r → (between end refusal body).run (drop at s) ≡ done (child a) r
        between-child a r x =
            by-body (done a r) x
            ∙ moved (child a) r (let l : length r ≤ length (drop e s) = leaves (body w) (drop e s) a r x in simp length-drop (omega (arith, v.inside, simp length-drop at l)))

        pub between-child-fault : (k : ℕ) (r : List ℕ) → (body w).run (drop e s) ≡ fault k r → (between end refusal body).run (drop at s) ≡ fault k r
        between-child-fault k r x = by-body (fault k r) x

        pub between-child-cut : (body w).run (drop e s) ≡ cut → (between end refusal body).run (drop at s) ≡ cut
        between-child-cut x = by-body cut x

    -- ---- an end tag

    module _ (v : ItemReads s at (Ok Items.EndTag)) where
      by_end : (o : Out (Unit {0})) → end.run (drop at s) ≡ o → (between end refusal body).run (drop at s) ≡ strict_out (then_out o (λ u. ret_p close)) (drop at s)
      by_end o x = by_answer (Ok Items.EndTag) v ∙ ap (λ (o : Out (Unit {0})). strict_out (then_out o (λ u. ret_p close)) (drop at s)) x

      pub between-end : (e : ℕ) → end.run (drop at s) ≡ done tt (drop e s) → at < e → e ≤ length s → (between end refusal body).run (drop at s) ≡ done close (drop e s)
      between-end e x h k = by_end (done tt (drop e s)) x ∙ moved close (drop e s) (simp length-drop (omega arith))

      pub between-end-fault : (k : ℕ) (r : List ℕ) → end.run (drop at s) ≡ fault k r → (between end refusal body).run (drop at s) ≡ fault k r
      between-end-fault k r x = by_end (fault k r) x

      pub between-end-cut : end.run (drop at s) ≡ cut → (between end refusal body).run (drop at s) ≡ cut
      between-end-cut x = by_end cut x

      -- the same by the code's answer for the end tag
      pub between-end-reads : (r : Scan) → Reads 1 end.run no_value s at r → (between end refusal body).run (drop at s) ≡ scan_out (λ e. close) s r
      between-end-reads (Ok e) x = between-end e (sym x.out) (omega (arith, x.inside)) x.inside.1
      between-end-reads (Err (Stops.Fault k p)) x = between-end-fault k (drop p s) (sym x.out)
      between-end-reads (Err Stops.Cut) x = between-end-cut (sym x.out)
