-- Laws for proofs of functions that scan a slice byte by byte: the value of a test from the fact that a branch of the code gives, the
-- rest of a slice at an index, and a loop's invariant in tail form ("the answer from the start is the answer from here"). None names a
-- place of any code, so a proof lists the set `scan` and the clauses of its own definition. Assumes nothing.
use Rattle.std.specs.Prelude.{ℕ, ◌+◌, ◌-◌, ◌≤◌, ◌<◌, ◌≡◌, Bool, true, false, cond, List, [], ◌∷◌, length, get_or, take, drop}
use Rattle.std.proofs.Common.{sym, ◌∙◌, add-one, arith, drop_of_length-le, length-take, length-drop, drop-cons, eq-eqb, ne_eqb, le-leb, lt-ltb, le-ltb}
use Rattle.std.proofs.lemmas.Bool.{lt-leb}

-- there is a byte at i
pub here : (s : List ℕ) (i : ℕ) → i < length s → drop i s ≡ get_or s i 0 ∷ drop (i + 1) s
here s i h = rw (add-one, drop-cons s i 0)

-- the slice has ended at i
pub past : (s : List ℕ) (i : ℕ) → length s ≤ i → drop i s ≡ []
past s i h = drop_of_length-le s h

-- the bytes of s from a to e, as `&s[a..e]` has them
pub part_length : (s : List ℕ) (a e : ℕ) → a ≤ e → e ≤ length s → length (take (e - a) (drop a s)) ≡ e - a
part_length s a e h k = simp (length-take, length-drop) (omega arith)

-- a test by a call: r is the call's result, t what the call ensures it to be
pub told : (t r u : Bool) → r ≡ t → r ≡ u → t ≡ u
told t r u e h = sym e ∙ h

module _ {A : Type 0} where
  pub cond_yes : (t : Bool) (x y : A) → t ≡ true → cond t x y ≡ x
  cond_yes t x y h = rw h

  pub cond_no : (t : Bool) (x y : A) → t ≡ false → cond t x y ≡ y
  cond_no t x y h = rw h

  -- a loop ends: the invariant says that the answer from the start, y, is the answer from here, x
  pub from-here : (x y z : A) → y ≡ x → z ≡ x → z ≡ y
  from-here x y z e h = h ∙ sym e

  -- a loop turns
  pub one-turn : (x y z : A) → y ≡ x → x ≡ z → y ≡ z
  one-turn x y z e h = e ∙ h

-- tests of numbers alone; with the rest of a slice, for a function whose answer is a Bool; with tests by calls
pub ruleset tests = (eq-eqb, ne_eqb, le-leb, lt-leb, lt-ltb, le-ltb)

pub ruleset bytes = (tests, here, past)

pub ruleset scan = (bytes, told, cond_yes, cond_no)
