-- End tags, and what may not stand where an end tag must, by what their parts answered. Assumes nothing.
use mathlib.Core.Path.{◌≡◌, refl, sym, ap, ◌∙◌}
use mathlib.Core.Bool.{Bool, true, false, cond}
use mathlib.Core.List.{List, ◌∷◌}
use Prim.Native.Nat.{ℕ, ◌+◌, ◌≤◌, ◌<◌}
use native.Mathlib.Omega.{arith}
use lib.ListN.{length, get_or, drop}
use lib.Dec.{eqb}
use borrow.Author.Tests.{eq-eqb, ne_eqb}
use Rattle.scanning.specs.Steps.{here, past}
use Rattle.grammar.specs.Parse.{Out, done, fault, cut, Parser, then_out, bind_p, ret_p, bad_p, judge_out, judge_p, strict_p, look_two_p}
use Rattle.grammar.specs.Grammar.{G, bad, judge, settle, ◌>>◌}
use Rattle.grammar.specs.Laws.{nope}
use Rattle.xml.specs.Bytes.{same, slash, greater_than}
use Rattle.xml.specs.Xml.{spaces, byte, comment, open_name, close_name, end_tag, stray_end}
use Rattle.xml.specs.Elements.{forbidden, only_end}
use Rattle.xml.specs.Code.{part, Reads, no_value, Failed}
use Rattle.xml.specs.CodeLaws.{reads-fewer, reads_then, reads-failed, reads-ret, reads-well, reads-ill, reads-strict, look-two-at}
use Rattle.xml.specs.Code.{Scan}
use Rattle.std.specs.Prelude.{Ok, Err}
use Rattle.xml.specs.declared.Stop.TheVariants.{Fault, Cut}
use Rattle.markup.specs.Settled.{settled_scan, refused_scan, spaces_byte, end_alone}
use Rattle.markup.proofs.Known.{reads-settle, reads-settled, reads-refused}

five : ◌≡◌ {A = ℕ} 5 0 → ⊥
five e = omega arith

three : ◌≡◌ {A = ℕ} 3 0 → ⊥
three e = omega arith

two : ◌≡◌ {A = ℕ} 2 0 → ⊥
two e = omega arith

module _ (s : List ℕ) (at : ℕ) where
  -- ---- white space, and a byte

  module _ (c : ℕ) where
    pub spaces-failed : (r : Scan) → Failed r → Reads 0 spaces.run (part s at) s at r → Reads 1 (spaces_byte c).run no_value s at r
    spaces-failed r f v =
        reads-failed (bind_p spaces.run (λ l. (byte c 2).run)) (λ e. 0) (λ b. ret_p tt) no_value s at 1 1 r f
        (reads-failed spaces.run (part s at) (λ l. (byte c 2).run) (λ e. 0) s at 0 1 r f v)

    pub spaces-then : (e : ℕ) (r : Scan) → Reads 0 spaces.run (part s at) s at (Ok e) → Reads 1 (byte c 2).run (λ i. get_or s e 0) s e r
        → Reads 1 (spaces_byte c).run no_value s at r
    spaces-then e r v w =
        reads-ret (bind_p spaces.run (λ l. (byte c 2).run)) (λ i. get_or s e 0) tt s at 1 r
        (reads_then spaces.run (part s at) (λ l. (byte c 2).run) (λ i. get_or s e 0) s at 0 1 e r v w)

  -- ---- an end tag

  module _ (w : List ℕ) where
    abbrev judged : List ℕ → ℕ
    judged n = cond (same n w) 0 2

    abbrev rest : Out (List ℕ) → Out (Unit {0})
    rest o = then_out (then_out (then_out o (λ n. spaces.run)) (λ l. (byte greater_than 2).run)) (λ b. ret_p tt)

    pub end-failed : (r : Scan) → Failed r → Reads 3 close_name.run (part s (at + 2)) s at r → Reads 1 (end_alone w).run no_value s at r
    end-failed (Ok e) f v = absurd f
    end-failed (Err (Fault k q)) f v = record { out = ap (λ (o : Out (List ℕ)). rest (judge_out judged o (drop at s))) v.out; inside = v.inside }
    end-failed (Err Cut) f v = record { out = ap (λ (o : Out (List ℕ)). rest (judge_out judged o (drop at s))) v.out; inside = tt }

    module _ (e : ℕ) (v : Reads 3 close_name.run (part s (at + 2)) s at (Ok e)) where
      pub end-other : same (part s (at + 2) e) w ≡ false → Reads 1 (end_alone w).run no_value s at (Err (Fault 2 at))
      end-other q =
          let i : Reads 1 (judge_p judged close_name.run) (part s (at + 2)) s at (Err (Fault 2 at)) =
          reads-ill close_name.run (part s (at + 2)) s at judged 3 1 e 2 (ap (λ (t : Bool). cond t 0 2) q) two v in
          record { out = ap rest i.out; inside = i.inside }

      pub end_same : (r : Scan) → same (part s (at + 2) e) w ≡ true → Reads 1 (spaces_byte greater_than).run no_value s e r → Reads 1 (end_alone w).run no_value s at r
      end_same r q u =
          let i : Reads 3 (judge_p judged close_name.run) (part s (at + 2)) s at (Ok e) =
          reads-well close_name.run (part s (at + 2)) s at judged 3 e (ap (λ (t : Bool). cond t 0 2) q) v in
          let z : Reads 4 (bind_p (judge_p judged close_name.run) (λ n. (spaces_byte greater_than).run)) no_value s at r =
          reads_then (judge_p judged close_name.run) (part s (at + 2)) (λ n. (spaces_byte greater_than).run) no_value s at 3 1 e r i u in
          let f : Reads 1 (bind_p (judge_p judged close_name.run) (λ n. (spaces_byte greater_than).run)) no_value s at r =
          reads-fewer (bind_p (judge_p judged close_name.run) (λ n. (spaces_byte greater_than).run)) no_value s at 4 1 r (omega arith) z in
          record { out = f.out ∙ nested (judge_p judged close_name.run (drop at s)); inside = f.inside }
        where
          nested : (o : Out (List ℕ)) → then_out o (λ n. (spaces_byte greater_than).run) ≡ rest o
          nested (done n r) = refl
          nested (fault k r) = refl
          nested cut = refl

    pub end-tag : (missing : ℕ) (r : Scan) → Reads 1 (end_alone w).run no_value s at r → Reads 1 (end_tag w missing).run no_value s at (settled_scan missing r at)
    unfolding end_tag
    end-tag missing r v = reads-settle (end_alone w).run no_value s at 1 missing r v

  pub stray-end : (r : Scan) → Reads 3 close_name.run (part s (at + 2)) s at r → Reads 1 stray_end.run no_value s at (refused_scan r 2 at)
  unfolding stray_end
  stray-end r v = reads-refused close_name.run (part s (at + 2)) s at 3 (λ n. ret_p tt) no_value 1 2 r two v

  -- it is never read to its end
  pub stray-failed : (r : Scan) → Reads 1 stray_end.run no_value s at r → Failed r
  unfolding stray_end
  stray-failed (Ok e) v = go (close_name.run (drop at s)) v.out
    where
      go : (o : Out (List ℕ)) → done (tt {0}) (drop e s) ≡ then_out (judge_out (λ n. 2) o (drop at s)) (λ n. ret_p tt) → ⊥
      go (done w r) q = nope cc
      go (fault k r) q = nope cc
      go cut q = nope cc
  stray-failed (Err (Fault k p)) v = tt
  stray-failed (Err Cut) v = tt

  -- ---- what may not stand there

  module _ (h : at < length s) (b : ℕ) where
    abbrev choose : Bool → Bool → G (Unit {0})
    choose x y = cond x (settle 3 comment >> bad 3) (cond y (bad 3) (judge (λ w. 5) open_name >> bad 5))

    by : (x y : Bool) → eqb b 33 ≡ x → eqb b 63 ≡ y → (r : Scan) → Reads 1 (choose x y).run no_value s at r → Reads 1 (forbidden b).run no_value s at r
    by x y qx qy r v = record {
      out = v.out ∙ sym (ap (λ (t : Bool). (choose t (eqb b 63)).run (drop at s)) qx ∙ ap (λ (t : Bool). (choose x t).run (drop at s)) qy);
      inside = v.inside;
    }

    pub stranger-comment : (r : Scan) → b ≡ 33 → Reads 1 comment.run no_value s at r → Reads 1 (forbidden b).run no_value s at (settled_scan 3 r at)
    stranger-comment r q v =
        by true (eqb b 63) (eq-eqb b 33 q) refl (settled_scan 3 r at) (reads-settled comment.run no_value s at 1 (λ u. bad_p 3) no_value 1 3 r three v)

    module _ (nc : b ≡ 33 → ⊥) where
      pub stranger-question : b ≡ 63 → Reads 1 (forbidden b).run no_value s at (Err (Fault 3 at))
      stranger-question q = by false true (ne_eqb b 33 nc) (eq-eqb b 63 q) (Err (Fault 3 at)) (record { out = refl; inside = (omega arith, omega arith) })

      pub stranger-element : (r : Scan) → (b ≡ 63 → ⊥) → Reads 2 open_name.run (part s (at + 1)) s at r → Reads 1 (forbidden b).run no_value s at (refused_scan r 5 at)
      stranger-element r q v =
          by false false (ne_eqb b 33 nc) (ne_eqb b 63 q) (refused_scan r 5 at) (reads-refused open_name.run (part s (at + 1)) s at 2 (λ w. bad_p 5) no_value 1 5 r five v)

  -- ---- only an end tag

  module _ (w : List ℕ) (missing : ℕ) where
    abbrev only : ℕ → ℕ → Parser (Unit {0})
    only a b = (cond (eqb b slash) (end_tag w missing) (forbidden b)).run

    pub only-cut : length s ≤ at → Reads 1 (only_end w missing).run no_value s at (Err Cut)
    unfolding only_end
    only-cut h = record { out = sym (ap (look_two_p only) (past s at h)); inside = tt }

    pub only_one : at < length s → length s ≤ at + 1 → Reads 1 (only_end w missing).run no_value s at (Err Cut)
    unfolding only_end
    only_one h k =
        record { out = sym (ap (look_two_p only) (here s at h ∙ ap (λ (l : List ℕ). get_or s at 0 ∷ l) (past s (at + 1) k))); inside = tt }

    module _ (h : at + 1 < length s) where
      only-by : (t : Bool) → eqb (get_or s (at + 1) 0) 47 ≡ t → (r : Scan) → Reads 1 (cond t (end_tag w missing) (forbidden (get_or s (at + 1) 0))).run no_value s at r
          → Reads 1 (only_end w missing).run no_value s at r
      unfolding only_end
      only-by t q r v =
          let z : Reads 1 (strict_p (cond t (end_tag w missing) (forbidden (get_or s (at + 1) 0))).run) no_value s at r =
          reads-strict (cond t (end_tag w missing) (forbidden (get_or s (at + 1) 0))).run no_value s at 1 r (omega arith) v in
          record {
            out = z.out ∙ sym (look-two-at only s at h ∙ ap (λ (t : Bool). strict_p (cond t (end_tag w missing) (forbidden (get_or s (at + 1) 0))).run (drop at s)) q);
            inside = z.inside;
          }

      pub only_end_lem : (r : Scan) → get_or s (at + 1) 0 ≡ 47 → Reads 1 (end_tag w missing).run no_value s at r → Reads 1 (only_end w missing).run no_value s at r
      only_end_lem r q v = only-by true (eq-eqb (get_or s (at + 1) 0) 47 q) r v

      pub only-stranger : (r : Scan) → (get_or s (at + 1) 0 ≡ 47 → ⊥) → Reads 1 (forbidden (get_or s (at + 1) 0)).run no_value s at r
          → Reads 1 (only_end w missing).run no_value s at r
      only-stranger r q v = only-by false (ne_eqb (get_or s (at + 1) 0) 47 q) r v
