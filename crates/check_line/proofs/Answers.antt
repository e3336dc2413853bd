-- The line for what reading answers. Assumes nothing.
use mathlib.Core.Path.{◌≡◌, refl, ap, sym, ◌∙◌}
use mathlib.Core.List.{List, ◌++◌, append_assoc}
use Prim.Native.Nat.{ℕ, ◌≤◌, ◌<◌}
use borrow.Author.Tests.{ne_eqb, lt-ltb, le-ltb}
use lib.ListN.{length}
use Rattle.process_list.specs.List.{nodes_of, total, capped}
use Rattle.std.proofs.Common.{Ok, Err}
use Rattle.process_list.specs.declared.ProcessList.{ProcessList}
use Rattle.clf.specs.Reading.{Reading, accepted, faulty, unfit, read, reading_number}
use Rattle.claims.proofs.Refusals.{number-accepted}
use Rattle.reading.specs.declared.Refused.{Refused}
use Rattle.reading.specs.Code.{Answer, reading_answer}
use Rattle.reading.specs.Counts.{node_count, number_count}
use Rattle.reading.proofs.Counts.{answer-count, answer-numbers}
use Rattle.decimal_write.specs.Written.{digits}
use Rattle.xml.specs.Bytes.{bytes}
use Rattle.text_out.specs.Output.{Puts}
use Rattle.text_out.proofs.Laws.{puts-as}
use Rattle.check_line.specs.declared.Line.{Line}
use Rattle.check_line.specs.Line.{line_from, two_numbers, line_text, too_long, answer_text, reading_text, check_text, accepted_text, refusal_text}

-- a refusal has a number
refused-text : (k p n m : ℕ) → (k ≡ 0 → ⊥) → refusal_text k p ≡ line_text k p n m
unfolding line_text
refused-text k p n m h = rw (ne_eqb k 0 h) refl

module _ (room : ℕ) (s : List ℕ) where
  text-go : (x : Reading) → read room s ≡ x → answer_text (reading_answer x) ≡ reading_text x
  unfolding answer_text reading_text line_text reading_answer total
  text-go (accepted l) q =
      let a = reading_answer (accepted l) in
      let e : a ≡ reading_answer (read room s) = ap reading_answer (sym q) in
      let n = answer-count room s a e ∙ ap node_count q in
      let m = answer-numbers room s a e ∙ ap number_count q in
      cc (n, m)
  text-go (faulty k p) q = refused-text k p 0 0 (λ z. let w = number-accepted room s (ap reading_number q ∙ z) in let c : faulty k p ≡ accepted w.0 = sym q ∙ w.1 in cc)
  text-go (unfit k p) q = refused-text k p 0 0 (λ z. let w = number-accepted room s (ap reading_number q ∙ z) in let c : unfit k p ≡ accepted w.0 = sym q ∙ w.1 in cc)

  pub answer-text : (a : Answer) → a ≡ reading_answer (read room s) → answer_text a ≡ reading_text (read room s)
  answer-text a e = ap answer_text e ∙ text-go (read room s) refl

-- ---- the branches of the code
two-front : (u v w : List ℕ) (m n : ℕ) (t : List ℕ) → (u ++ (digits m ++ (v ++ (digits n ++ w)))) ++ t ≡ two_numbers u m v n w t
two-front u v w m n t = simp append_assoc

module _ {r : ℕ} {s s' : List ℕ} where
  pub accepted-answer : (l : ProcessList) (u : ℕ) → u ≡ capped (total (nodes_of l))
      → Puts (two_numbers (bytes "accepted ") l.count (bytes " nodes ") u (bytes " numbers\n")) 0 s s' r → Puts (λ t. answer_text (Ok l) ++ t) 0 s s' r
  unfolding answer_text accepted_text
  accepted-answer l u e p = puts-as (λ t. rw (← e) (two-front (bytes "accepted ") (bytes " nodes ") (bytes " numbers\n") l.count u t)) p

  pub refused-answer : (why : Refused) → Puts (two_numbers (bytes "refusal ") why.number (bytes " at ") why.place (bytes "\n")) 0 s s' r → Puts (λ t. answer_text (Err why) ++ t) 0 s s' r
  unfolding answer_text refusal_text
  refused-answer why p = puts-as (λ t. two-front (bytes "refusal ") (bytes " at ") (bytes "\n") why.number why.place t) p

pub long-input : (s : List ℕ) (x : Line) → 65536 < length s → x ≡ line_from too_long → x ≡ line_from (check_text s)
unfolding check_text
long-input s x l h = rw (lt-ltb 65536 (length s) l) h

pub fit-input : (s : List ℕ) (x : Line) → length s ≤ 65536 → x ≡ line_from (reading_text (read 4096 s)) → x ≡ line_from (check_text s)
unfolding check_text
fit-input s x l h = rw (le-ltb 65536 (length s) l) h
