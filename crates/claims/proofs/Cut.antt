-- A cut text answers 1 at its length, or what every longer text answers. Assumes nothing.
use mathlib.Core.Path.{◌≡◌, refl, sym, ap, ◌∙◌, subst}
use mathlib.Core.Bool.{true}
use mathlib.Core.List.{List, [], ◌++◌, append_assoc, append-nil}
use Prim.Native.Nat.{ℕ}
use native.Mathlib.Omega.{arith}
use lib.ListN.{length, length-append}
use Rattle.grammar.specs.Parse.{done, fault, cut}
use Rattle.grammar.specs.Laws.{nope, StrongPrefix, cuts, faults, dones, follows-self}
use Rattle.clf.specs.List.{Document, document, tail}
use Rattle.clf.specs.Reading.{Reading, faulty, nodes_among, place_in, tail_reading, text_reading, read_text}
use Rattle.claims.specs.Refusals.{is_text_fault, Answered, whole, text, list}
use Rattle.claims.specs.Refusals as A
use Rattle.claims.specs.Cut.{Behind, same, later, Longer, short, at_fault, sound}
use Rattle.claims.proofs.Tail.{Tailed, tail-law}
use Rattle.claims.proofs.Tail as T
use Rattle.claims.proofs.Refusals.{answered}
use Rattle.claims.specs.Theorems.{CutLaw}

-- a place stays as bytes are appended
place-more : (s r t : List ℕ) → place_in (s ++ t) (r ++ t) ≡ place_in s r
place-more s r t = omega (arith, length-append s t, length-append r t)

-- a fault of the text, or cut short
fault-or-short : (room : ℕ) (s : List ℕ) (k p : ℕ) → read_text room s ≡ faulty k p → ((t : List ℕ) → read_text room (s ++ t) ≡ faulty k p) → Longer room s
fault-or-short room s k p q g = go (read_text room s) (answered room s) q refl
  where
    go : (x : Reading) → Answered (length s) x → x ≡ faulty k p → read_text room s ≡ x → Longer room s
    go x (whole l) e z = nope cc
    go x A.short e z = short z
    go x (text j i f h) e z = let y : j ≡ k = cc in at_fault k p (subst (λ (n : ℕ). is_text_fault n ≡ true) y f) q g
    go x (list j i f) e z = nope cc

-- the bytes behind the root decide
module _ (room : ℕ) (s c r : List ℕ) (d : Document) (e : s ≡ c ++ r) (h : (t : List ℕ) → document.run (s ++ t) ≡ done d (r ++ t)) where
  whole-reads : (t : List ℕ) → read_text room (s ++ t) ≡ tail_reading room (s ++ t) d (tail (r ++ t))
  unfolding read_text
  whole-reads t = ap (text_reading room (s ++ t)) (h t)

  alone : read_text room s ≡ tail_reading room s d (tail r)
  alone =
      ap (read_text room) (sym (append-nil s)) ∙ whole-reads []
      ∙ ap (λ (l : List ℕ). tail_reading room l d (tail (r ++ []))) (append-nil s) ∙ ap (λ (l : List ℕ). tail_reading room s d (tail l)) (append-nil r)

  -- behind a tail that is done
  behind : (t : List ℕ) → tail (r ++ t) ≡ tail t → Tailed t → Behind room s (nodes_among d.parts) t
  behind t g (T.short q) =
      later 1 (length (s ++ t)) (omega (arith, length-append s t)) (whole-reads t ∙ ap (tail_reading room (s ++ t) d) (g ∙ q))
  behind t g (T.at_fault k a w z f) =
      let q : tail t ≡ fault k w = ap tail (sym (append-nil t)) ∙ f [] ∙ ap (fault k) (append-nil w) in
      later k (place_in (s ++ t) w) (omega (arith, length-append s t, ap length z, length-append a w)) (whole-reads t ∙ ap (tail_reading room (s ++ t) d) (g ∙ q))
  behind t g (T.whole q f) = same (whole-reads t ∙ ap (tail_reading room (s ++ t) d) (g ∙ q))

  by-tail : Tailed r → Longer room s
  by-tail (T.short q) = short (alone ∙ ap (tail_reading room s d) q)
  by-tail (T.at_fault k a w z f) =
      let g : (t : List ℕ) → read_text room (s ++ t) ≡ faulty k (place_in s w) =
      λ t. whole-reads t ∙ ap (tail_reading room (s ++ t) d) (f t) ∙ ap (faulty k) (place-more s w t) in
      fault-or-short room s k (place_in s w) (ap (read_text room) (sym (append-nil s)) ∙ g []) g
  by-tail (T.whole q f) = sound (nodes_among d.parts) (alone ∙ ap (tail_reading room s d) q) (λ t. behind t (f t) (tail-law t))

fault-reads : (room : ℕ) (s : List ℕ) (k : ℕ) (r : List ℕ) → ((t : List ℕ) → document.run (s ++ t) ≡ fault k (r ++ t)) → (t : List ℕ) → read_text room (s ++ t) ≡ faulty k (place_in s r)
unfolding read_text
fault-reads room s k r h t = ap (text_reading room (s ++ t)) (h t) ∙ ap (faulty k) (place-more s r t)

cut-reads : (room : ℕ) (s : List ℕ) → document.run s ≡ cut → read_text room s ≡ faulty 1 (length s)
unfolding read_text
cut-reads room s q = ap (text_reading room s) q

by_answer : (room : ℕ) (s : List ℕ) → StrongPrefix document.run s → Longer room s
by_answer room s (cuts q) = short (cut-reads room s q)
by_answer room s (faults k c r e h) =
    let g = fault-reads room s k r h in
    fault-or-short room s k (place_in s r) (ap (read_text room) (sym (append-nil s)) ∙ g []) g
by_answer room s (dones d c r e h) =
    by-tail room s c r d e
    (λ t. ap (λ (l : List ℕ). document.run (l ++ t)) e ∙ ap document.run (append_assoc c r t) ∙ h (r ++ t) (follows-self r t))
    (tail-law r)

-- THE CUT LAW
pub cut-law : CutLaw
cut-law room s = by_answer room s (document.law s)
