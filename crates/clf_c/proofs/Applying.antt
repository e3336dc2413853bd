-- The ways through clf_apply. Assumes nothing.
use mathlib.Core.Path.{◌≡◌, refl, ap, sym, ◌∙◌, subst}
use mathlib.Core.Bool.{Bool, true, false, ◌||◌}
use mathlib.Core.List.{List}
use Prim.Native.Nat.{ℕ, ◌%◌, ◌≤◌, ◌<◌}
use native.Mathlib.Omega.{arith}
use borrow.Author.Tests.{eq-eqb, ne_eqb, lt-ltb, le-ltb}
use lib.ListN.{length}
use lib.Ieee.{Float}
use Rattle.process_list.specs.List.{Element, list_of, placed}
use Rattle.room.specs.Room.{Room, room_length}
use Rattle.valid.specs.Valid.{is_valid}
use Rattle.grammar.specs.Laws.{nope}
use Rattle.clf.specs.Reading.{Reading, accepted, faulty, unfit, reading_number, reading_place, nodes_in}
use Rattle.claims.proofs.Refusals.{number-accepted}
use Rattle.claims.proofs.Rules.{accepted-valid}
use Rattle.std.proofs.Common.{Ok, Err}
use Rattle.process_list.specs.declared.ProcessList.{ProcessList}
use Rattle.reading.specs.declared.Refused.{Refused}
use Rattle.reading.specs.Code.{reading_answer, ReadsInto}
use Rattle.pixel_run.specs.Finite.{first_not_finite}
use Rattle.running.specs.Running.{not_threes, not_finite, Ran, ran_number, ran_place, ran_of, pixels_of}
use Rattle.running.specs.RunningLaws.{ran-accepted, pixels-accepted}
use Rattle.clf_c.specs.Answers.{file_check_of}
use Rattle.clf_c.proofs.Laws.{ok-says, err-says}
use Rattle.clf_c.specs.Applying.{slice_refused, reading_for, room_read, run_through, check_saying, apply_of, room_applied, applied_to, Applies}

-- ---- the slice
module _ (xs : List Float) where
  -- what a slice that passes keeps
  passed-both : (a b : Bool) → (a || b) ≡ false → (a ≡ false) × (b ≡ false)
  passed-both true b h = nope cc
  passed-both false b h = (refl, h)

  pub slice_passes : (k : ℕ) → length xs % 3 ≡ 0 → k ≡ first_not_finite xs → length xs ≤ k → slice_refused xs ≡ false
  unfolding slice_refused not_threes not_finite
  slice_passes k h e i = rw (eq-eqb (length xs % 3) 0 h, ← e, le-ltb k (length xs) i)

module _ (file : List ℕ) (m₀ : Room) (xs : List Float) where
  abbrev r₀ : Reading
  r₀ = reading_for file m₀

  -- refused by the slice, nothing changes
  slice-refused : (number place : ℕ) → (number ≡ 0 → ⊥) → slice_refused xs ≡ true → apply_of file m₀ xs ≡ check_saying number place → Applies file m₀ xs (check_saying number place) m₀ xs
  unfolding room_applied applied_to
  slice-refused number place k h e = record { answers = sym e; room = simp h; pixels = simp (e, ne_eqb number 0 k) }

  pub no-threes : (length xs % 3 ≡ 0 → ⊥) → Applies file m₀ xs (check_saying 14 0) m₀ xs
  unfolding apply_of slice_refused not_threes
  no-threes h = slice-refused 14 0 (λ e. omega arith) (simp (ne_eqb (length xs % 3) 0 h)) (simp (ne_eqb (length xs % 3) 0 h))

  pub no_number : (k : ℕ) → length xs % 3 ≡ 0 → k ≡ first_not_finite xs → k < length xs → Applies file m₀ xs (check_saying 15 k) m₀ xs
  unfolding apply_of slice_refused not_threes not_finite
  no_number k h e i = slice-refused 15 k (λ z. omega arith)
      (rw (eq-eqb (length xs % 3) 0 h, ← e, lt-ltb k (length xs) i))
      (rw (eq-eqb (length xs % 3) 0 h, ← e, lt-ltb k (length xs) i))

  -- ---- the file, where the slice passes
  module _ (passed : slice_refused xs ≡ false) where
    reading-says : apply_of file m₀ xs ≡ file_check_of r₀
    unfolding slice_refused apply_of
    reading-says = let b = passed-both xs (not_threes xs) (not_finite xs) passed in simp (b.0, b.1)

    room-is : room_read file m₀ ≡ room_applied file m₀ xs
    unfolding room_applied
    room-is = simp passed

    said : (number place : ℕ) (m₁ : Room) (ys : List Float) → number ≡ reading_number r₀ → place ≡ reading_place r₀ → m₁ ≡ room_read file m₀ → ys ≡ applied_to file m₀ xs
        → Applies file m₀ xs (check_saying number place) m₁ ys
    said number place m₁ ys n p e z = record {
      answers = cc (n, p, reading-says);
      room = e ∙ room-is;
      pixels = z;
    }

    numbered : (why : Refused) (x : Reading) → Err why ≡ reading_answer x → (reading_number x ≡ 0 → (l : List Element) × (x ≡ accepted l)) → reading_number x ≡ 0 → ⊥
    unfolding reading_answer
    numbered why (accepted l) e f z = cc
    numbered why (faulty k p) e f z = let q = (f z).1 in cc
    numbered why (unfit k p) e f z = let q = (f z).1 in cc

    -- a refused reading
    pub refused : (why : Refused) (m₁ : Room) → ReadsInto r₀ (Err why) m₀ m₁ → Applies file m₀ xs (check_saying why.number why.place) m₁ xs
    unfolding applied_to
    refused why m₁ e =
        let w = err-says why r₀ e.answer in
        said why.number why.place m₁ xs w.0 w.1 e.room (simp (reading-says, ne_eqb (reading_number r₀) 0 (numbered why r₀ e.answer (number-accepted (room_length m₀) file))))

    -- an accepted one: its list is valid in its room, so that running accepts
    module _ (list : ProcessList) (m₁ : Room) (e : ReadsInto r₀ (Ok list) m₀ m₁) where
      found : (l : List Element) × ((r₀ ≡ accepted l) × (list ≡ list_of (placed l)))
      found = ok-says list r₀ e.answer

      list-is : list ≡ list_of (placed (nodes_in r₀))
      list-is = found.1.1 ∙ ap (λ (r : Reading). list_of (placed (nodes_in r))) (sym found.1.0)

      list-valid : is_valid list m₁ ≡ true
      list-valid =
          let n : nodes_in r₀ ≡ found.0 = ap nodes_in found.1.0 in
          rw (list-is, e.room, n) (accepted-valid m₀ file found.0 found.1.0)

      ran-is : ran_of list m₁ xs ≡ Ok tt
      unfolding slice_refused
      ran-is = let b = passed-both xs (not_threes xs) (not_finite xs) passed in ran-accepted list m₁ list-valid xs b.0 b.1

      pixels-are : (ys : List Float) → ys ≡ pixels_of list m₁ xs → ys ≡ applied_to file m₀ xs
      unfolding applied_to run_through
      pixels-are ys ey =
          let q = eq-eqb (reading_number r₀) 0 (ap reading_number found.1.0) in
          simp (reading-says, q) (ey ∙ pixels-accepted list m₁ xs ran-is ∙ rw (list-is, e.room))

      pub ran-through : (t : Ran) (ys : List Float) → t ≡ ran_of list m₁ xs → ys ≡ pixels_of list m₁ xs → Applies file m₀ xs (check_saying (ran_number t) (ran_place t)) m₁ ys
      ran-through t ys et ey =
          let z : t ≡ Ok tt = et ∙ ran-is in
          subst (λ (x : Ran). Applies file m₀ xs (check_saying (ran_number x) (ran_place x)) m₁ ys) (sym z)
          (said 0 0 m₁ ys (sym (ap reading_number found.1.0)) (sym (ap reading_place found.1.0)) e.room (pixels-are ys ey))
