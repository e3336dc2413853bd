-- What each way out of the call of writing comes to. Assumes nothing.
use mathlib.Core.Path.{◌≡◌, refl, sym, ap, ◌∙◌}
use Rattle.std.specs.Prelude.{Ok}
use mathlib.Core.Bool.{true, false}
use mathlib.Core.List.{List, []}
use Prim.Native.Nat.{ℕ, ◌+◌, ◌≤◌, ◌<◌, ◌^◌}
use native.Mathlib.Omega.{arith}
use native.Mathlib.Nat.{zero-add}
use borrow.Author.Tests.{lt-ltb, le-ltb}
use lib.ListN.{length}
use Rattle.process_list.specs.declared.ProcessList.{ProcessList}
use Rattle.room.specs.Room.{Room}
use Rattle.room.proofs.Contents.{laid-fits}
use Rattle.valid.specs.Valid.{is_valid, elements_of}
use Rattle.ids.specs.Ids.{id_right}
use Rattle.text_out.specs.Output.{counted, Puts}
use Rattle.text_out.proofs.Laws.{counted-in, puts-is}
use Rattle.written_form.specs.Written.{joined, list_lines, most_id_bytes, Writing, refused, written, fitting, write_of, output_of}
use Rattle.written_form.proofs.Short.{list-short}
use Rattle.written_form.proofs.Order.{list-first, id-second, output-last}
use Rattle.writing.specs.Writing.{writing_answer, Written, Wrote}

-- ---- a text that has been put from the start of an output on
pub wrote : {f : List ℕ → List ℕ} {s s' : List ℕ} {r : ℕ} → Puts f 0 s s' r → r < 2 ^ 64 → Wrote (f []) s s' r
wrote {f = f} p h =
    let w = puts-is p h in
    record { bytes = w.0; size = w.1 ∙ ap counted (zero-add (length (f []))); kept = p.size }

-- ---- 'Writing: 16, 18, 17'
module _ (l : ProcessList) (m : Room) (id out : List ℕ) where
  abbrev pub Ends : Written → List ℕ → Type 0
  Ends r out' = (r ≡ writing_answer (write_of l m id (length out))) × (out' ≡ output_of (write_of l m id (length out)) out)

  ends_as : (w : Writing) (r : Written) (out' : List ℕ) → write_of l m id (length out) ≡ w → r ≡ writing_answer w → out' ≡ output_of w out → Ends r out'
  ends_as w r out' e p q = (p ∙ ap writing_answer (sym e), q ∙ ap (λ (x : Writing). output_of x out) (sym e))

  pub ends-16 : (r : Written) → is_valid l m ≡ false → r ≡ writing_answer (refused 16) → Ends r out
  ends-16 r v e = ends_as (refused 16) r out (list-first l m id (length out) v) e refl

  module _ (v : is_valid l m ≡ true) where
    pub ends-18 : (r : Written) → id_right most_id_bytes id ≡ false → r ≡ writing_answer (refused 18) → Ends r out
    ends-18 r i e = ends_as (refused 18) r out (id-second l m id (length out) v i) e refl

    module _ (i : id_right most_id_bytes id ≡ true) where
      abbrev text : List ℕ
      text = joined (list_lines id (elements_of l m))

      -- the count is the text's length
      exact : counted (length text) ≡ length text
      exact = counted-in (length text) (omega (arith, list-short l m v id i))

      pub ends-17 : (r : Written) (n : ℕ) → n ≡ counted (length text) → length out < n → r ≡ writing_answer (refused 17) → Ends r out
      unfolding fitting
      ends-17 r n c h e =
          let k : length out < length text = omega (arith, exact) in
          ends_as (refused 17) r out (output-last l m id (length out) v i ∙ simp (lt-ltb (length out) (length text) k)) e refl

      pub ends-written : (n : ℕ) (out' : List ℕ) (k : ℕ) → n ≡ counted (length text) → n ≤ length out → Wrote text out out' k → Ends (Ok n) out'
      unfolding fitting
      ends-written n out' k c h w =
          let f : length text ≤ length out = omega (arith, exact) in
          let z : 0 + length text ≡ length text = zero-add (length text) in
          ends_as (written text) (Ok n) out' (output-last l m id (length out) v i ∙ simp (le-ltb (length out) (length text) f))
          (ap Ok (c ∙ exact))
          (w.bytes ∙ laid-fits (length out) 0 text out (omega arith) (omega arith) ∙ (rw z))
