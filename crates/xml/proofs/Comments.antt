-- A comment, as the code goes through it: byte by byte, where the grammar goes from dash to dash. Assumes nothing.
use mathlib.Core.Path.{◌≡◌, refl, sym, ap, ◌∙◌}
use mathlib.Core.Bool.{Bool, true, false, cond, not}
use mathlib.Core.List.{List, [], ◌∷◌}
use Prim.Native.Nat.{ℕ, suc, ◌+◌, ◌≤◌, ◌<◌}
use native.Mathlib.Omega.{arith}
use lib.ListN.{length, get_or, drop}
use lib.Dec.{eqb}
use borrow.Author.Tests.{eq-eqb, ne_eqb, lt-ltb}
use Rattle.scanning.specs.Steps.{here, past}
use Rattle.grammar.specs.Parse.{Out, done, fault, cut, Turn, again, last, then_out, ret_p, look_p, eat_p, span_p, turn_out, loop_p}
use Rattle.grammar.specs.Grammar.{ret, eat, ◌>>◌}
use Rattle.grammar.specs.Laws.{nope, loop-step, loop-again, loop-last, loop-cut, loop-fault}
use Rattle.xml.specs.Bytes.{bytes, dash, greater_than}
use Rattle.xml.specs.Xml.{byte, word, after_dash, comment_part, comment}
use Rattle.xml.specs.Code.{Reads, ReadsFrom, no_value, blamed_scan, Failed, comment_found}
use Rattle.xml.specs.CodeLaws.{reads-ended, reads-fewer, reads-from, reads-blame, reads_then, reads-failed}
use Rattle.xml.specs.Code.{Scan}
use Rattle.std.specs.Prelude.{Ok, Err}
use Rattle.xml.specs.declared.Stop.TheVariants.{Fault, Cut}

-- ---- a part of a comment, to its dash

abbrev to-dash : ℕ → Bool
to-dash b = not (eqb b dash)

part-skip : (b : ℕ) (s : List ℕ) → eqb b dash ≡ false → comment_part.run (b ∷ s) ≡ comment_part.run s
unfolding comment_part
part-skip b s q = rw q (go (span_p to-dash s))
  where
    go : (o : Out (List ℕ))
        → then_out (then_out (then_out o (λ w. ret_p (b ∷ w))) (λ w. eat_p)) (λ x. look_p (λ c. (after_dash c).run)) ≡ then_out (then_out o (λ w. eat_p)) (λ x. look_p (λ c. (after_dash c).run))
    go (done w r) = refl
    go (fault k r) = refl
    go cut = refl

part-dash : (b : ℕ) (s : List ℕ) → eqb b dash ≡ true → comment_part.run (b ∷ s) ≡ look_p (λ c. (after_dash c).run) s
unfolding comment_part
part-dash b s q = rw q

part_none : comment_part.run [] ≡ cut
unfolding comment_part
part_none = refl

-- after a dash another byte
dash-other : (c : ℕ) (s : List ℕ) → eqb c dash ≡ false → look_p (λ x. (after_dash x).run) (c ∷ s) ≡ done (again tt) (c ∷ s)
dash-other c s q = ap (λ (t : Bool). (cond t (eat >> byte greater_than 2 >> ret (last tt)) (ret (again tt))).run (c ∷ s)) q

-- after a dash a second one
dash-dash : (c : ℕ) (s : List ℕ) → eqb c dash ≡ true → look_p (λ x. (after_dash x).run) (c ∷ s) ≡ then_out ((byte greater_than 2).run s) (λ x. ret_p (last tt))
dash-dash c s q = ap (λ (t : Bool). (cond t (eat >> byte greater_than 2 >> ret (last tt)) (ret (again tt))).run (c ∷ s)) q

module _ (u : Unit {0}) (r : List ℕ) where
  ended : (n : ℕ) (o : Out ℕ) → ◌≡◌ {A = Out (Turn (Unit {0}) (Unit {0}))} (then_out o (λ x. ret_p (last tt))) (done (again u) r) → length r < n
  ended n (done v t) q = nope cc
  ended n (fault k t) q = nope cc
  ended n cut q = nope cc

  second : (s : List ℕ) → look_p (λ x. (after_dash x).run) s ≡ done (again u) r → length r < suc (length s)
  second [] q = nope cc
  second (c ∷ s) q = by-second (eqb c dash) refl
    where
      by-second : (t : Bool) → eqb c dash ≡ t → length r < suc (suc (length s))
      by-second true e = ended (suc (suc (length s))) ((byte greater_than 2).run s) (sym (dash-dash c s e) ∙ q)
      by-second false e =
          let z : ◌≡◌ {A = Out (Turn (Unit {0}) (Unit {0}))} (done (again tt) (c ∷ s)) (done (again u) r) = sym (dash-other c s e) ∙ q in let w : c ∷ s ≡ r = cc in omega (arith, ap length w)

  by-dash : (b : ℕ) (s : List ℕ) → comment_part.run (b ∷ s) ≡ done (again u) r → (comment_part.run s ≡ done (again u) r → length r < length s)
      → (t : Bool) → eqb b dash ≡ t → length r < suc (length s)
  by-dash b s q ih true e = second s (sym (part-dash b s e) ∙ q)
  by-dash b s q ih false e = let z : length r < length s = ih (sym (part-skip b s e) ∙ q) in omega arith

-- a part after which the comment goes on has read its dash
part-less : (s : List ℕ) (u : Unit {0}) (r : List ℕ) → comment_part.run s ≡ done (again u) r → length r < length s
part-less [] u r q = let z : ◌≡◌ {A = Out (Turn (Unit {0}) (Unit {0}))} cut (done (again u) r) = sym part_none ∙ q in nope cc
part-less (b ∷ s) u r q = by-dash u r b s q (part-less s u r) (eqb b dash) refl

-- ---- the loop over the parts

abbrev pub body : List ℕ → Out (Unit {0})
body = loop_p (λ (st : Unit {0}). comment_part.run) tt

body-skip : (b : ℕ) (s : List ℕ) → eqb b dash ≡ false → body (b ∷ s) ≡ body s
body-skip b s q =
    loop-step f tt (b ∷ s) ∙ ap (λ (o : Out (Turn (Unit {0}) (Unit {0}))). turn_out (loop_p f) o (b ∷ s)) (part-skip b s q) ∙ go (comment_part.run s) refl ∙ sym (loop-step f tt s)
  where
    f : Unit {0} → List ℕ → Out (Turn (Unit {0}) (Unit {0}))
    f = λ (st : Unit {0}). comment_part.run

    go : (o : Out (Turn (Unit {0}) (Unit {0}))) → comment_part.run s ≡ o → turn_out (loop_p f) o (b ∷ s) ≡ turn_out (loop_p f) o s
    go (done (last u) r) e = refl
    go (done (again u) r) e =
        let l : length r < length s = part-less s u r e in
        ap (λ (t : Bool). cond t (loop_p f u r) cut) (lt-ltb (length r) (suc (length s)) (omega arith) ∙ sym (lt-ltb (length r) (length s) l))
    go (fault k r) e = refl
    go cut e = refl

-- the rest of the comment, at what is left of the bytes
pub record CommentInv (s : List ℕ) (at i : ℕ) : Type 0 where
  pub low : at ≤ i
  pub out : body (drop at s) ≡ body (drop i s)

pub comment-start : (s : List ℕ) (at : ℕ) → CommentInv s at at
comment-start s at = record { low = omega arith; out = refl }

module _ (s : List ℕ) (at i : ℕ) (v : CommentInv s at i) where
  pub comment-end : length s ≤ i → Reads 1 body no_value s at (Err Cut)
  unfolding comment_part
  comment-end h = record { out = sym (v.out ∙ ap body (past s i h) ∙ loop-cut (λ (st : Unit {0}). comment_part.run) tt [] refl); inside = tt }

  module _ (h : i < length s) where
    pub comment-more : (get_or s i 0 ≡ 45 → ⊥) → CommentInv s at (i + 1)
    comment-more q = record { low = omega (arith, v.low); out = v.out ∙ ap body (here s i h) ∙ body-skip (get_or s i 0) (drop (i + 1) s) (ne_eqb (get_or s i 0) 45 q) }

    module _ (d : get_or s i 0 ≡ 45) where
      at-dash : comment_part.run (drop i s) ≡ look_p (λ x. (after_dash x).run) (drop (i + 1) s)
      at-dash = ap comment_part.run (here s i h) ∙ part-dash (get_or s i 0) (drop (i + 1) s) (eq-eqb (get_or s i 0) 45 d)

      pub comment-dash-end : length s ≤ i + 1 → Reads 1 body no_value s at (Err Cut)
      comment-dash-end k =
          record { out = sym (v.out ∙ loop-cut (λ (st : Unit {0}). comment_part.run) tt (drop i s) (at-dash ∙ ap (look_p (λ x. (after_dash x).run)) (past s (i + 1) k))); inside = tt }

      module _ (k : i + 1 < length s) where
        pub comment-dash : (get_or s (i + 1) 0 ≡ 45 → ⊥) → CommentInv s at (i + 1)
        comment-dash q = record {
          low = omega (arith, v.low);
          out = v.out ∙ loop-again (λ (st : Unit {0}). comment_part.run) tt (drop i s) tt (drop (i + 1) s)
              (at-dash ∙ ap (look_p (λ x. (after_dash x).run)) (here s (i + 1) k) ∙ dash-other (get_or s (i + 1) 0) (drop (i + 1 + 1) s) (ne_eqb (get_or s (i + 1) 0) 45 q)
              ∙ ap (λ (l : List ℕ). done (again tt) l) (sym (here s (i + 1) k)))
              (omega (arith, ap length (here s i h)));
        }

        pub comment-last : (r : Scan) → get_or s (i + 1) 0 ≡ 45 → Reads 1 (byte greater_than 2).run (λ e. get_or s (i + 1 + 1) 0) s (i + 1 + 1) r → Reads 1 body no_value s at r
        comment-last r q w = go r w
          where
            turn : comment_part.run (drop i s) ≡ then_out ((byte greater_than 2).run (drop (i + 1 + 1) s)) (λ x. ret_p (last tt))
            turn = at-dash ∙ ap (look_p (λ x. (after_dash x).run)) (here s (i + 1) k) ∙ dash-dash (get_or s (i + 1) 0) (drop (i + 1 + 1) s) (eq-eqb (get_or s (i + 1) 0) 45 q)

            K : Out ℕ → Out (Turn (Unit {0}) (Unit {0}))
            K o = then_out o (λ x. ret_p (last tt))

            go : (r : Scan) → Reads 1 (byte greater_than 2).run (λ e. get_or s (i + 1 + 1) 0) s (i + 1 + 1) r → Reads 1 body no_value s at r
            go (Ok e) w = record {
              out = sym (v.out ∙ loop-last (λ (st : Unit {0}). comment_part.run) tt (drop i s) tt (drop e s) (turn ∙ ap K (sym w.out)));
              inside = (omega (arith, v.low, w.inside), w.inside.1);
            }
            go (Err (Fault n p)) w = record {
              out = sym (v.out ∙ loop-fault (λ (st : Unit {0}). comment_part.run) tt (drop i s) n (drop p s) (turn ∙ ap K (sym w.out)));
              inside = (omega (arith, v.low, w.inside), w.inside.1);
            }
            go (Err Cut) w = record { out = sym (v.out ∙ loop-cut (λ (st : Unit {0}). comment_part.run) tt (drop i s) (turn ∙ ap K (sym w.out))); inside = tt }

-- ---- a comment

module _ (s : List ℕ) (at : ℕ) where
  pub comment-cut : length s ≤ at → Reads 1 comment.run no_value s at (Err Cut)
  unfolding comment
  comment-cut h = reads-ended comment.run no_value s at 1 refl h

  -- a fault in it has its first byte for a place
  pub comment-blamed : (r : Scan) → Reads 1 comment_found no_value s at r → Reads 1 comment.run no_value s at (blamed_scan r at)
  unfolding comment
  comment-blamed r v = reads-blame comment_found no_value s at 1 r v

  module _ (h : at < length s) where
    pub comment-none : (r : Scan) → Failed r → ReadsFrom 4 (word (bytes "<!--") 3).run no_value s at r → Reads 1 comment_found no_value s at r
    comment-none r f v =
        reads-failed (word (bytes "<!--") 3).run no_value (λ u. body) no_value s at 4 1 r f (reads-from (word (bytes "<!--") 3).run no_value s at 4 r (omega arith) v)

    pub comment-rest : (e : ℕ) (r : Scan) → ReadsFrom 4 (word (bytes "<!--") 3).run no_value s at (Ok e) → Reads 1 body no_value s e r → Reads 1 comment_found no_value s at r
    comment-rest e r v w =
        reads-fewer comment_found no_value s at 5 1 r (omega arith)
        (reads_then (word (bytes "<!--") 3).run no_value (λ u. body) no_value s at 4 1 e r (reads-from (word (bytes "<!--") 3).run no_value s at 4 (Ok e) (omega arith) v) w)
