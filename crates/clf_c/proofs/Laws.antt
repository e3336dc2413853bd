-- The records for C, from what reading answers. Assumes nothing.
use mathlib.Core.Path.{◌≡◌, refl, ap, ◌∙◌}
use mathlib.Core.List.{List}
use Prim.Native.Nat.{ℕ}
use Rattle.std.proofs.Common.{Ok, Err}
use Rattle.grammar.specs.Laws.{nope}
use Rattle.process_list.specs.declared.ProcessList.{ProcessList}
use Rattle.process_list.specs.List.{Element, list_of, placed, nodes_of, total, capped}
use Rattle.clf.specs.Reading.{Reading, accepted, faulty, unfit, read, reading_number, reading_place}
use Rattle.reading.specs.declared.Refused.{Refused}
use Rattle.reading.specs.Code.{Checked, checked_of, reading_answer}
use Rattle.reading.proofs.Counts.{answer-count, answer-numbers}
use Rattle.clf_c.specs.declared.FileCheck.{FileCheck}
use Rattle.clf_c.specs.declared.FileRead.{FileRead}
use Rattle.clf_c.specs.Answers.{file_check_of, file_read_of}

abbrev pub check_by : Checked → FileCheck
check_by (Ok u) = record { number = 0; place = 0 }
check_by (Err why) = record { number = why.number; place = why.place }

pub file-check : (c : Checked) (r : Reading) → c ≡ checked_of r → check_by c ≡ file_check_of r
file-check c r e = ap check_by e ∙ by r
  where
    by : (x : Reading) → check_by (checked_of x) ≡ file_check_of x
    by (accepted l) = refl
    by (faulty k p) = refl
    by (unfit k p) = refl

-- ---- what an answer says of the reading

pub ok-says : (list : ProcessList) (x : Reading) → Ok list ≡ reading_answer x → (l : List Element) × ((x ≡ accepted l) × (list ≡ list_of (placed l)))
unfolding reading_answer
ok-says list (accepted l) e = (l, (refl, cc))
ok-says list (faulty k p) e = nope cc
ok-says list (unfit k p) e = nope cc

pub err-says : (why : Refused) (x : Reading) → Err why ≡ reading_answer x → (why.number ≡ reading_number x) × (why.place ≡ reading_place x)
unfolding reading_answer
err-says why (accepted l) e = nope cc
err-says why (faulty k p) e = let q : why ≡ record { number = k; place = p } = cc in (ap (λ (w : Refused). w.number) q, ap (λ (w : Refused). w.place) q)
err-says why (unfit k p) e = let q : why ≡ record { number = k; place = p } = cc in (ap (λ (w : Refused). w.number) q, ap (λ (w : Refused). w.place) q)

module _ (room : ℕ) (s : List ℕ) where
  pub accepted-read : (l : ProcessList) (u : ℕ) → Ok l ≡ reading_answer (read room s) → u ≡ capped (total (nodes_of l))
      → ◌≡◌ {A = FileRead} (record { number = 0; place = 0; nodes = l.count; numbers = u }) (file_read_of (read room s))
  accepted-read l u e h =
      let w = ok-says l (read room s) e in
      let n = ap reading_number w.1.0 in
      let p = ap reading_place w.1.0 in
      cc (n, p, answer-count room s (Ok l) e, answer-numbers room s (Ok l) e)

  pub refused-read : (why : Refused) → Err why ≡ reading_answer (read room s) → ◌≡◌ {A = FileRead} (record { number = why.number; place = why.place; nodes = 0; numbers = 0 }) (file_read_of (read room s))
  refused-read why e = let w = err-says why (read room s) e in cc (w.0, w.1, answer-count room s (Err why) e, answer-numbers room s (Err why) e)
