-- What stands between elements, in front of what follows it. Assumes nothing.
use mathlib.Core.Path.{◌≡◌, refl, ap, ◌∙◌}
use mathlib.Core.Bool.{Bool, true, false, cond}
use mathlib.Core.List.{List, [], ◌∷◌, ◌++◌}
use Prim.Native.Nat.{ℕ, ◌≤◌}
use native.Mathlib.Omega.{arith}
use lib.Dec.{eqb}
use lib.ListN.{length, length-append}
use borrow.Author.Tests.{lt-ltb, ne_eqb}
use Rattle.valid.specs.Valid.{every}
use Rattle.valid.proofs.Elements.{both_true}
use Rattle.grammar.specs.Parse.{Out, done, cut, Parser, Turn, then_out, ret_p, judge_out, strict_out}
use Rattle.grammar.specs.Laws.{nope, loop-again, loop-last}
use Rattle.grammar.specs.Grammar.{G}
use Rattle.xml.specs.Bytes.{is_space, is_letter, is_name_byte}
use Rattle.xml.specs.Xml.{open_name, end_tag}
use Rattle.xml.specs.Elements.{Part, misc, child, close, markup, between, Holder, after_part, held_part, held}
use Rattle.reads_back.proofs.Texts.{rest-short, skip, is_name, open_name-reads}
use Rattle.reads_back.proofs.Tags.{judge-reads, letter-big, end_reads}

module _ {C : Type 0} (end : G (Unit {0})) (fault : List ℕ → ℕ) (body : List ℕ → G C) where
  -- 'LF after each'
  pub between-line : (t : List ℕ) → (between end fault body).run (10 ∷ t) ≡ done misc t
  unfolding between is_space
  between-line t = refl

  child-first : (b : ℕ) (w : List ℕ) → is_letter b ≡ true
      → (markup end fault body 60 b).run (60 ∷ b ∷ w) ≡ then_out (judge_out fault (open_name.run (60 ∷ b ∷ w)) (60 ∷ b ∷ w)) (λ n r. then_out ((body n).run r) (λ v. ret_p (child v)))
  child-first b w h =
      let l : 65 ≤ b = letter-big b h in
      skip (eqb b 47) _ _ (60 ∷ b ∷ w) (ne_eqb b 47 (λ e. omega arith))
      ∙ skip (eqb b 33) _ _ (60 ∷ b ∷ w) (ne_eqb b 33 (λ e. omega arith))
      ∙ skip (eqb b 63) _ _ (60 ∷ b ∷ w) (ne_eqb b 63 (λ e. omega arith))

  -- a child: `<`, its name, and what stands behind the name
  pub between-child : (w : List ℕ) (b : ℕ) (t : List ℕ) (v : C) (r : List ℕ) → is_name w ≡ true → is_name_byte b ≡ false → fault w ≡ 0 → (body w).run (b ∷ t) ≡ done v r
      → (between end fault body).run (60 ∷ w ++ b ∷ t) ≡ done (child v) r
  unfolding between is_space is_name
  between-child [] b t v r h k f q = nope cc
  between-child (x ∷ w) b t v r h k f q =
      let l : length r ≤ length (b ∷ t) = rest-short (body (x ∷ w)) (b ∷ t) v r q in
      let a : (markup end fault body 60 x).run (60 ∷ x ∷ w ++ b ∷ t) ≡ done (child v) r =
      child-first x (w ++ b ∷ t) (both_true (is_letter x) (every is_name_byte w) h).0
      ∙ ap (λ (o : Out (List ℕ)). then_out o (λ n r. then_out ((body n).run r) (λ v. ret_p (child v))))
      (judge-reads fault (open_name.run (60 ∷ x ∷ w ++ b ∷ t)) (60 ∷ x ∷ w ++ b ∷ t) (x ∷ w) (b ∷ t) (open_name-reads (x ∷ w) b t h k) f)
      ∙ ap (λ (o : Out C). then_out o (λ v. ret_p (child v))) q in
      ap (λ (o : Out (Part C)). strict_out o (60 ∷ x ∷ w ++ b ∷ t)) a
      ∙ ap (λ (z : Bool). cond z (done (child v) r) cut) (lt-ltb (length r) (length (60 ∷ x ∷ w ++ b ∷ t)) (omega (arith, length-append w (b ∷ t))))

module _ {C : Type 0} (name : List ℕ) (missing : ℕ) (fault : List ℕ → ℕ) (body : List ℕ → G C) where
  -- the end tag
  pub between-end : (t : List ℕ) → is_name name ≡ true → missing ≡ 0 → (between (end_tag name missing) fault body).run (60 ∷ 47 ∷ name ++ 62 ∷ t) ≡ done close t
  unfolding between is_space
  between-end t h q =
      ap (λ (o : Out (Unit {0})). strict_out (then_out o (λ u. ret_p close)) (60 ∷ 47 ∷ name ++ 62 ∷ t)) (end_reads name t missing h q)
      ∙ ap (λ (z : Bool). cond z (done close t) cut) (lt-ltb (length t) (length (60 ∷ 47 ∷ name ++ 62 ∷ t)) (omega (arith, length-append name (62 ∷ t))))

-- ---- an element that holds elements

module _ {S : Type 0} (h : Holder S) where
  abbrev parts : S → Parser (Turn S S)
  parts st = (held_part h st).run

  -- its content, from a state on
  unfoldable pub held_from : S → Parser S
  held_from st = (held h st).run

  pub held-from : (st : S) (s : List ℕ) → (held h st).run s ≡ held_from st s
  unfolding held_from
  held-from st s = refl

  pub held-line : (st : S) (t : List ℕ) → held_from st (10 ∷ t) ≡ held_from st t
  unfolding held_from
  held-line st t =
      loop-again parts st (10 ∷ t) st t
      (ap (λ (o : Out (Part S)). then_out o (λ p. ret_p (after_part st p))) (between-line (end_tag h.name (h.missing st)) (h.fault st) (h.body st) t)) (omega arith)

  pub held-child : (st : S) (w : List ℕ) (b : ℕ) (t : List ℕ) (v : S) (r : List ℕ) → is_name w ≡ true → is_name_byte b ≡ false → h.fault st w ≡ 0 → (h.body st w).run (b ∷ t) ≡ done v r
      → held_from st (60 ∷ w ++ b ∷ t) ≡ held_from v r
  unfolding held_from
  held-child st w b t v r n k f q =
      let l : length r ≤ length (b ∷ t) = rest-short (h.body st w) (b ∷ t) v r q in
      loop-again parts st (60 ∷ w ++ b ∷ t) v r
      (ap (λ (o : Out (Part S)). then_out o (λ p. ret_p (after_part st p))) (between-child (end_tag h.name (h.missing st)) (h.fault st) (h.body st) w b t v r n k f q))
      (omega (arith, length-append w (b ∷ t)))

  pub held-end : (st : S) (t : List ℕ) → is_name h.name ≡ true → h.missing st ≡ 0 → held_from st (60 ∷ 47 ∷ h.name ++ 62 ∷ t) ≡ done st t
  unfolding held_from
  held-end st t n q =
      loop-last parts st (60 ∷ 47 ∷ h.name ++ 62 ∷ t) st t
      (ap (λ (o : Out (Part S)). then_out o (λ p. ret_p (after_part st p))) (between-end h.name (h.missing st) (h.fault st) (h.body st) t n q))
