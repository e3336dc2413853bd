use mathlib.Core.Path.{◌≡◌, sym, ◌∙◌}
use mathlib.Core.Bool.{true, false}
use mathlib.Core.List.{List}
use Rattle.std.specs.Prelude.{Ok, Err}
use Prim.Native.Nat.{ℕ, ◌%◌, ◌≤◌, ◌<◌}
use borrow.Author.Tests.{eq-eqb, ne_eqb, lt-ltb, le-ltb}
use lib.ListN.{length}
use lib.Ieee.{Float}
use Rattle.process_list.specs.declared.ProcessList.{ProcessList}
use Rattle.process_list.specs.List.{nodes_of}
use Rattle.room.specs.Room.{Room, lent}
use Rattle.valid.specs.Valid.{is_valid}
use Rattle.pixel_run.specs.Finite.{first_not_finite}
use Rattle.running.specs.declared.RunFault.{RunFault}
use Rattle.running.specs.declared.RunFault.TheVariants.{NoReading, NotThrees, NotFinite}
use Rattle.running.specs.Running.{tables_stand, LastEndHolds, run_nodes, not_threes, not_finite, Ran, ran_of, pixels_of}
use Rattle.running.specs.RunningLaws.{ran-invalid, ran-not-threes, ran-not-finite, ran-accepted, pixels-accepted, pixels-refused}
use Rattle.running.proofs.Tables.{valid-stand}
use Rattle.running.proofs.LastEnd.{last_end}
use Rattle.running.proofs.run.Goals as goal

-- the tests of the code
some_left : (xs : List Float) → (length xs % 3 ≡ 0 → ⊥) → not_threes xs ≡ true
unfolding not_threes
some_left xs h = simp (ne_eqb (length xs % 3) 0 h)

none_left : (xs : List Float) → length xs % 3 ≡ 0 → not_threes xs ≡ false
unfolding not_threes
none_left xs h = simp (eq-eqb (length xs % 3) 0 h)

found : (xs : List Float) (k : ℕ) → k ≡ first_not_finite xs → k < length xs → not_finite xs ≡ true
unfolding not_finite
found xs k e h = rw (← e) (lt-ltb k (length xs) h)

not_found : (xs : List Float) (k : ℕ) → k ≡ first_not_finite xs → length xs ≤ k → not_finite xs ≡ false
unfolding not_finite
not_found xs k e h = rw (← e) (le-ltb k (length xs) h)

module _ (l : ProcessList) (m : Room) (xs : List Float) where
  -- the promises: the answer, the slice afterwards; and, where it is accepted, that every table stands in the room, and what comes out of a last Range with one end
  abbrev Answers : Ran → List Float → Type 0
  Answers r ys =
      (r ≡ ran_of l m xs)
      × ((ys ≡ pixels_of l m xs) × ((r ≡ Ok tt → tables_stand m (nodes_of l) ≡ true) × (r ≡ Ok tt → LastEndHolds m (nodes_of l) ys)))

  refused : (f : RunFault) → ran_of l m xs ≡ Err f → Answers (Err f) xs
  refused f e = (sym e, (sym (pixels-refused l m xs f e), (λ z. cc, λ z. cc)))

  accepted : is_valid l m ≡ true → (ys : List Float) → ran_of l m xs ≡ Ok tt → ys ≡ run_nodes m (nodes_of l) xs → Answers (Ok tt) ys
  accepted v ys e f = (sym e, (f ∙ sym (pixels-accepted l m xs e), (λ z. valid-stand l m v, λ z. last_end m (nodes_of l) xs ys f)))

  not_valid : is_valid l m ≡ false → Answers (Err NoReading) xs
  not_valid v = refused NoReading (ran-invalid l m xs v)

  module _ (v : is_valid l m ≡ true) where
    no-threes : (length xs % 3 ≡ 0 → ⊥) → Answers (Err NotThrees) xs
    no-threes h = refused NotThrees (ran-not-threes l m v xs (some_left xs h))

    module _ (h : length xs % 3 ≡ 0) (k : ℕ) (e : k ≡ first_not_finite xs) where
      first : k < length xs → Answers (Err (NotFinite k)) xs
      first i = refused (NotFinite k) (rw e (ran-not-finite l m v xs (none_left xs h) (found xs k e i)))

      all : (ys : List Float) → length xs ≤ k → ys ≡ run_nodes m (nodes_of l) xs → Answers (Ok tt) ys
      all ys i f = accepted v ys (ran-accepted l m v xs (none_left xs h) (not_found xs k e i)) f

pub returns-then-not-valid : goal.returns-then-not-valid
returns-then-not-valid c =
    let a = c.args in
    let k = not_valid a.list (lent a.coefficients.now a.powers.now) a.pixels.now (sym c.valid.ensures ∙ c.if-not-valid.true) in
    record { value = k.0; pixels_after = k.1.0; list_value = k.1.1.0; last_end_holds = k.1.1.1 }

pub returns-then-pixels-ne0 : goal.returns-then-pixels-ne0
returns-then-pixels-ne0 c =
    let a = c.args in
    let k = no-threes a.list (lent a.coefficients.now a.powers.now) a.pixels.now (sym c.valid.ensures ∙ c.if-not-valid.false) c.if-pixels-ne0.true in
    record { value = k.0; pixels_after = k.1.0; list_value = k.1.1.0; last_end_holds = k.1.1.1 }

pub returns-then-first-pixels : goal.returns-then-first-pixels
returns-then-first-pixels c =
    let a = c.args in
    let m = lent a.coefficients.now a.powers.now in
    let k = first a.list m a.pixels.now (sym c.valid.ensures ∙ c.if-not-valid.false) c.if-pixels-ne0.false c.first_not_finite-first.result c.first_not_finite-first.ensures c.if-first-pixels.true in
    record { value = k.0; pixels_after = k.1.0; list_value = k.1.1.0; last_end_holds = k.1.1.1 }

pub returns : goal.returns
returns c =
    let a = c.args in
    let m = lent a.coefficients.now a.powers.now in
    let valid = sym c.valid.ensures ∙ c.if-not-valid.false in
    let k = all a.list m a.pixels.now valid c.if-pixels-ne0.false c.first_not_finite-first.result c.first_not_finite-first.ensures _ c.if-first-pixels.false c.run_all.ensures in
    record { value = k.0; pixels_after = k.1.0; list_value = k.1.1.0; last_end_holds = k.1.1.1 }
