-- A text up to a byte that passes the test `stop`, as the code goes through it. Assumes nothing.
use mathlib.Core.Path.{◌≡◌, refl, sym, ap, ◌∙◌}
use mathlib.Core.Bool.{Bool, true, false, cond}
use mathlib.Core.List.{List, []}
use Prim.Native.Nat.{ℕ, ◌+◌, ◌-◌, ◌≤◌, ◌<◌}
use native.Mathlib.Omega.{arith}
use lib.ListN.{length, take, get_or, drop, length-drop}
use lib.Dec.{eqb}
use borrow.Author.Tests.{eq-eqb, ne_eqb}
use Rattle.scanning.specs.Steps.{here, past}
use Rattle.grammar.specs.Parse.{Out, done, fault, cut, Turn, again, last, before, then_out, ret_p, look_p, kept_out, loop_p}
use Rattle.grammar.specs.Grammar.{G, ret, bad, eat, ◌>>◌}
use Rattle.grammar.specs.Laws.{loop-again, loop-last, loop-cut, loop-fault}
use Rattle.xml.specs.Xml.{entity, text_byte, text}
use Rattle.xml.specs.Code.{part, Reads, no_value, Failed}
use Rattle.xml.specs.CodeLaws.{look_at}
use Rattle.xml.specs.Code.{Scan}
use Rattle.std.specs.Prelude.{Ok, Err}
use Rattle.xml.specs.declared.Stop.TheVariants.{Fault, Cut}

-- the bytes between two places
between-places : (s : List ℕ) (at e : ℕ) → at ≤ e → e ≤ length s → before (drop at s) (drop e s) ≡ part s at e
between-places s at e h k =
    let z : length (drop at s) - length (drop e s) ≡ e - at = simp length-drop (omega arith) in
    ap (λ (n : ℕ). take n (drop at s)) z

module _ (stop : ℕ → Bool) where
  abbrev one : Unit {0} → List ℕ → Out (Turn (Unit {0}) (Unit {0}))
  one st = look_p (λ b. (text_byte stop b).run)

  abbrev run : List ℕ → Out (Unit {0})
  run = loop_p one tt

  -- the rest of the text, at what is left of the bytes
  pub record TextInv (s : List ℕ) (at i : ℕ) : Type 0 where
    pub low : at ≤ i
    pub out : run (drop at s) ≡ run (drop i s)

  pub text-start : (s : List ℕ) (at : ℕ) → TextInv s at at
  text-start s at = record { low = omega arith; out = refl }

  module _ (s : List ℕ) (at i : ℕ) (v : TextInv s at i) where
    text-done : (e : ℕ) → at ≤ e → e ≤ length s → run (drop i s) ≡ done tt (drop e s) → Reads 0 (text stop).run (λ e. (tt, part s at e)) s at (Ok e)
    unfolding text
    text-done e h k q = record {
      out = sym (ap (λ (o : Out (Unit {0})). kept_out o (drop at s)) (v.out ∙ q) ∙ ap (λ (l : List ℕ). done (tt, l) (drop e s)) (between-places s at e h k));
      inside = (omega arith, k);
    }

    text-fault : (k p : ℕ) → at ≤ p → p ≤ length s → run (drop i s) ≡ fault k (drop p s) → Reads 0 (text stop).run (λ e. (tt, part s at e)) s at (Err (Fault k p))
    unfolding text
    text-fault k p h j q = record { out = sym (ap (λ (o : Out (Unit {0})). kept_out o (drop at s)) (v.out ∙ q)); inside = (h, j) }

    text-cut : run (drop i s) ≡ cut → Reads 0 (text stop).run (λ e. (tt, part s at e)) s at (Err Cut)
    unfolding text
    text-cut q = record { out = sym (ap (λ (o : Out (Unit {0})). kept_out o (drop at s)) (v.out ∙ q)); inside = tt }

    pub text-end : length s ≤ i → Reads 0 (text stop).run (λ e. (tt, part s at e)) s at (Err Cut)
    text-end h = text-cut (ap run (past s i h) ∙ loop-cut one tt [] refl)

    module _ (h : i < length s) where
      abbrev choose : Bool → Bool → Bool → G (Turn (Unit {0}) (Unit {0}))
      choose x y z = cond x (ret (last tt)) (cond y (bad 2) (cond z (entity >> ret (again tt)) (eat >> ret (again tt))))

      turn : (x y z : Bool) → stop (get_or s i 0) ≡ x → eqb (get_or s i 0) 60 ≡ y → eqb (get_or s i 0) 38 ≡ z → one tt (drop i s) ≡ (choose x y z).run (drop i s)
      turn x y z qx qy qz =
          look_at (λ b. (text_byte stop b).run) s i h
          ∙ ap (λ (t : Bool). (choose t (eqb (get_or s i 0) 60) (eqb (get_or s i 0) 38)).run (drop i s)) qx
          ∙ ap (λ (t : Bool). (choose x t (eqb (get_or s i 0) 38)).run (drop i s)) qy
          ∙ ap (λ (t : Bool). (choose x y t).run (drop i s)) qz

      pub text-stop : stop (get_or s i 0) ≡ true → Reads 0 (text stop).run (λ e. (tt, part s at e)) s at (Ok i)
      text-stop q =
          text-done i v.low (omega arith)
          (loop-last one tt (drop i s) tt (drop i s) (turn true (eqb (get_or s i 0) 60) (eqb (get_or s i 0) 38) q refl refl))

      module _ (ns : stop (get_or s i 0) ≡ false) where
        pub text-less : get_or s i 0 ≡ 60 → Reads 0 (text stop).run (λ e. (tt, part s at e)) s at (Err (Fault 2 i))
        text-less q =
            text-fault 2 i v.low (omega arith)
            (loop-fault one tt (drop i s) 2 (drop i s) (turn false true (eqb (get_or s i 0) 38) ns (eq-eqb (get_or s i 0) 60 q) refl))

        module _ (nl : get_or s i 0 ≡ 60 → ⊥) where
          pub text-more : (get_or s i 0 ≡ 38 → ⊥) → TextInv s at (i + 1)
          text-more q = record {
            low = omega (arith, v.low);
            out = v.out ∙ loop-again one tt (drop i s) tt (drop (i + 1) s)
                (turn false false false ns (ne_eqb (get_or s i 0) 60 nl) (ne_eqb (get_or s i 0) 38 q) ∙ ap (eat >> ret (again tt)).run (here s i h))
                (omega (arith, ap length (here s i h)));
          }

          module _ (a : get_or s i 0 ≡ 38) where
            and-turn : one tt (drop i s) ≡ then_out (entity.run (drop i s)) (λ u. ret_p (again tt))
            and-turn = turn false false true ns (ne_eqb (get_or s i 0) 60 nl) (eq-eqb (get_or s i 0) 38 a)

            abbrev K : Out (Unit {0}) → Out (Turn (Unit {0}) (Unit {0}))
            K o = then_out o (λ u. ret_p (again tt))

            pub text-and : (e : ℕ) → Reads 1 entity.run no_value s i (Ok e) → TextInv s at e
            text-and e r =
                let k : (i + 1 ≤ e) × (e ≤ length s) = r.inside in
                record {
                  low = omega (arith, v.low);
                  out = v.out ∙ loop-again one tt (drop i s) tt (drop e s) (and-turn ∙ ap K (sym r.out)) (simp length-drop (omega arith));
                }

            pub text-failed : (r : Scan) → Failed r → Reads 1 entity.run no_value s i r → Reads 0 (text stop).run (λ e. (tt, part s at e)) s at r
            text-failed (Ok e) f r = absurd f
            text-failed (Err (Fault k p)) f r = text-fault k p (omega (arith, v.low, r.inside)) r.inside.1 (loop-fault one tt (drop i s) k (drop p s) (and-turn ∙ ap K (sym r.out)))
            text-failed (Err Cut) f r = text-cut (loop-cut one tt (drop i s) (and-turn ∙ ap K (sym r.out)))
