-- Names and texts in front of what follows them: each is read, and the rest is left. Assumes nothing.
use mathlib.Core.Path.{◌≡◌, refl, sym, ap, ◌∙◌}
use mathlib.Core.Bool.{Bool, true, false, cond, ◌&&◌, not}
use mathlib.Core.List.{List, [], ◌∷◌, ◌++◌, append-nil}
use Prim.Native.Nat.{ℕ, ◌≤◌}
use native.Mathlib.Omega.{arith}
use lib.Dec.{eqb}
use lib.ListN.{length, length-append}
use Rattle.valid.specs.Valid.{every}
use Rattle.valid.proofs.Elements.{both_true}
use Rattle.valid.proofs.Readings.{every-cons}
use Rattle.grammar.specs.Parse.{Out, done, fault, Parser, kept_out, span_p, loop_p}
use Rattle.grammar.specs.Laws.{StrongPrefix, cuts, faults, dones, follows-refl, before-app, nope, loop-again, loop-last}
use Rattle.grammar.specs.Grammar.{G, look}
use Rattle.xml.specs.Bytes.{is_letter, is_name_byte, less_than, ampersand}
use Rattle.xml.specs.Xml.{name, open_name, close_name, text_byte, text}

-- ---- what a grammar leaves is a rest of what it was given

pub rest-short : {A : Type 0} (g : G A) (s : List ℕ) (a : A) (r : List ℕ) → g.run s ≡ done a r → length r ≤ length s
rest-short {A} g s a r e = go (g.law s)
  where
    go : StrongPrefix g.run s → length r ≤ length s
    go (cuts q) = nope cc
    go (faults k c u q h) = absurd (let z : ◌≡◌ {A = ℕ} 0 1 = let y : g.run (s ++ []) ≡ fault k (u ++ []) = h [] in cc (append-nil s) in omega arith)
    go (dones b c u q h) =
        let y : g.run (c ++ u) ≡ done b u = h u (follows-refl u) in
        let z : done b u ≡ done a r = sym y ∙ ap g.run (sym q) ∙ e in
        let w : u ≡ r = cc in
        omega (arith, ap length q, length-append c u, ap length w)

-- ---- a test that fails, before a choice of grammars

pub skip : {A : Type 0} (v : Bool) (x y : G A) (s : List ℕ) → v ≡ false → (cond v x y).run s ≡ y.run s
skip v x y s q = ap (λ (u : Bool). (cond u x y).run s) q

-- ---- bytes that pass a test, before one that does not

pub span-reads : (test : ℕ → Bool) (w : List ℕ) (b : ℕ) (t : List ℕ) → every test w ≡ true → test b ≡ false → span_p test (w ++ b ∷ t) ≡ done w (b ∷ t)
span-reads test [] b t h k = rw k
span-reads test (x ∷ w) b t h k =
    let p = every-cons test x w h in
    rw (p.0, span-reads test w b t p.1 k)

-- ---- names

-- 'A name is an ASCII letter, then letters, digits, `_ : - .`'
unfoldable pub is_name : List ℕ → Bool
is_name [] = false
is_name (b ∷ w) = is_letter b && every is_name_byte w

letter-named : (b : ℕ) → is_letter b ≡ true → is_name_byte b ≡ true
unfolding is_name_byte
letter-named b q = rw q

pub name-reads : (w : List ℕ) (b : ℕ) (t : List ℕ) → is_name w ≡ true → is_name_byte b ≡ false → name.run (w ++ b ∷ t) ≡ done w (b ∷ t)
unfolding name is_name
name-reads [] b t h k = nope cc
name-reads (x ∷ w) b t h k =
    let p = both_true (is_letter x) (every is_name_byte w) h in
    rw (p.0, letter-named x p.0, span-reads is_name_byte w b t p.1 k)

pub open_name-reads : (w : List ℕ) (b : ℕ) (t : List ℕ) → is_name w ≡ true → is_name_byte b ≡ false → open_name.run (60 ∷ w ++ b ∷ t) ≡ done w (b ∷ t)
unfolding open_name
open_name-reads w b t h k = name-reads w b t h k

pub close_name-reads : (w : List ℕ) (b : ℕ) (t : List ℕ) → is_name w ≡ true → is_name_byte b ≡ false → close_name.run (60 ∷ 47 ∷ w ++ b ∷ t) ≡ done w (b ∷ t)
unfolding close_name
close_name-reads w b t h k = name-reads w b t h k

-- ---- texts

-- a byte of a text that neither ends it nor begins markup or an `&` form
abbrev pub plain_byte : (ℕ → Bool) → ℕ → Bool
plain_byte stop b = not (stop b) && (not (eqb b less_than) && not (eqb b ampersand))

not-true : (v : Bool) → not v ≡ true → v ≡ false
not-true true h = nope cc
not-true false h = refl

module _ (stop : ℕ → Bool) where
  abbrev L : Parser (Unit {0})
  L = loop_p (λ (st : Unit {0}). (look (text_byte stop)).run) tt

  loop-reads : (w : List ℕ) (b : ℕ) (t : List ℕ) → every (plain_byte stop) w ≡ true → stop b ≡ true → L (w ++ b ∷ t) ≡ done tt (b ∷ t)
  loop-reads [] b t h k = loop-last (λ (st : Unit {0}). (look (text_byte stop)).run) tt (b ∷ t) tt (b ∷ t) (rw k)
  loop-reads (x ∷ w) b t h k =
      let p = every-cons (plain_byte stop) x w h in
      let q = both_true (not (stop x)) (not (eqb x less_than) && not (eqb x ampersand)) p.0 in
      let r = both_true (not (eqb x less_than)) (not (eqb x ampersand)) q.1 in
      loop-again (λ (st : Unit {0}). (look (text_byte stop)).run) tt (x ∷ w ++ b ∷ t) tt (w ++ b ∷ t)
      (rw (not-true (stop x) q.0, not-true (eqb x less_than) r.0, not-true (eqb x ampersand) r.1)) (omega arith)
      ∙ loop-reads w b t p.1 k

  pub text-reads : (w : List ℕ) (b : ℕ) (t : List ℕ) → every (plain_byte stop) w ≡ true → stop b ≡ true → (text stop).run (w ++ b ∷ t) ≡ done (tt, w) (b ∷ t)
  unfolding text
  text-reads w b t h k =
      ap (λ (o : Out (Unit {0})). kept_out o (w ++ b ∷ t)) (loop-reads w b t h k)
      ∙ ap (λ (x : List ℕ). done (tt, x) (b ∷ t)) (before-app w (b ∷ t))
