-- The number reader tells apart what document 02 (W-204) says: each of its three answers is given exactly where its words hold. Assumes nothing.
use mathlib.Core.Path.{◌≡◌, refl, sym, ap, ◌∙◌, subst}
use mathlib.Core.Bool.{Bool, true, false, cond, ◌&&◌, false≢true}
use mathlib.Core.List.{List}
use mathlib.Core.Logic.{◌⊎◌, inl, inr}
use mathlib.Core.Option.{Option, none, some, none-ne-some, some-injective}
use Prim.Native.Nat.{ℕ, ◌^◌, ◌≤◌, ◌<◌}
use native.Mathlib.Omega.{arith}
use borrow.Author.Tests.{leb-true, leb-false, ltb-true, ltb-false}
use lib.Dec.{leb, ltb}
use lib.ListN.{length}
use Rattle.decimal.specs.Decimal.{size, in_range}
use Rattle.decimal.specs.declared.Decimal.{Decimal}
use Rattle.decimal.specs.Decimal.{Token}
use Rattle.std.specs.Prelude.{Ok, Err}
use Rattle.decimal.specs.declared.NumberFault.TheVariants.{Malformed, OutOfBounds}
use Rattle.decimal_read.specs.Number.{Form, form_of, normal, token_by, token_of}
use Rattle.decimal_read.specs.RightForm.{RightForm, form_said}
use Rattle.decimal_read.specs.Told.{TellsApart}
use Rattle.decimal_read.proofs.RightForms.{form-right, right-form}

-- ── The limits ──

-- over 64 bytes, or outside coefficient or power
abbrev Over : ℕ → Decimal → Type 0
Over n d = (64 < n) ⊎ (10 ^ 15 ≤ size d.coefficient) ⊎ (22 < size d.power)

over-range : (n : ℕ) (d : Decimal) → in_range d ≡ false → Over n d
over-range n d = go (ltb (size d.coefficient) (10 ^ 15)) refl (leb (size d.power) 22) refl
  where
    go : (a : Bool) → ltb (size d.coefficient) (10 ^ 15) ≡ a → (b : Bool) → leb (size d.power) 22 ≡ b → (a && b) ≡ false → Over n d
    go false e b k z = inr (inl (ltb-false (size d.coefficient) (10 ^ 15) e))
    go true e false k z = inr (inr (leb-false (size d.power) 22 k))
    go true e true k z = absurd (false≢true (sym z))

not-over : (n : ℕ) (d : Decimal) → n ≤ 64 → in_range d ≡ true → Over n d → ⊥
not-over n d h = go (ltb (size d.coefficient) (10 ^ 15)) refl (leb (size d.power) 22) refl
  where
    go : (a : Bool) → ltb (size d.coefficient) (10 ^ 15) ≡ a → (b : Bool) → leb (size d.power) 22 ≡ b → (a && b) ≡ true → Over n d → ⊥
    go false e b k z o = false≢true z
    go true e false k z o = false≢true z
    go true e true k z (inl o) = omega arith
    go true e true k z (inr (inl o)) = let c : size d.coefficient < 10 ^ 15 = ltb-true (size d.coefficient) (10 ^ 15) e in omega arith
    go true e true k z (inr (inr o)) = let c : size d.power ≤ 22 = leb-true (size d.power) 22 k in omega arith

-- ── A token without a form, and one with a form ──

module _ (t : List ℕ) where
  formless : form_of t ≡ none → TellsApart t (Err Malformed)
  formless q = record {
    number = λ d. (λ e. absurd (cc), λ a. wrong a.right);
    malformed = (λ e r. wrong r, λ e. refl);
    out_of_bounds = (λ e. absurd (cc), λ b. wrong b.right);
  }
    where
      wrong : {X : Type 0} → RightForm t → X
      wrong r = absurd (none-ne-some (form_said t r) (sym q ∙ right-form t r))

  module _ (f : Form) (q : form_of t ≡ some f) where
    -- every way to part the token into pieces says the form that the reader finds
    only : (r : RightForm t) → normal f ≡ normal (form_said t r)
    only r = ap normal (some-injective f (form_said t r) (sym q ∙ right-form t r))

    right : RightForm t
    right = form-right t f q

    kept : length t ≤ 64 → in_range (normal f) ≡ true → TellsApart t (Ok (normal f))
    kept h k = record {
      number = λ d. (
        λ e. let g : normal f ≡ d = cc in
            record { right = right; short = h; is = sym g ∙ only right; within = ap in_range (sym g) ∙ k },
        λ a. ap Ok (only a.right ∙ sym a.is),
      );
      malformed = (λ e. absurd (cc), λ e. absurd (e right));
      out_of_bounds = (λ e. absurd (cc), λ b. absurd (not-over (length t) (normal f) h k (subst (Over (length t)) (sym (only b.right)) b.limit)));
    }

    over : Over (length t) (normal f) → TellsApart t (Err OutOfBounds)
    over o = record {
      number = λ d. (
        λ e. absurd (cc),
        λ a. let g : d ≡ normal f = a.is ∙ sym (only a.right) in
            absurd (not-over (length t) (normal f) a.short (ap in_range (sym g) ∙ a.within) o),
      );
      malformed = (λ e. absurd (cc), λ e. absurd (e right));
      out_of_bounds = (λ e. record { right = right; limit = subst (Over (length t)) (only right) o }, λ b. refl);
    }

  tells : (o : Option Form) → form_of t ≡ o → TellsApart t (token_by (length t) o)
  unfolding token_by
  tells none q = formless q
  tells (some f) q = go (leb (length t) 64) refl (in_range (normal f)) refl
    where
      go : (a : Bool) → leb (length t) 64 ≡ a → (b : Bool) → in_range (normal f) ≡ b → TellsApart t (cond (a && b) (Ok (normal f)) (Err OutOfBounds))
      go false e b k = over f q (inl (leb-false (length t) 64 e))
      go true e false k = over f q (over-range (length t) (normal f) k)
      go true e true k = kept f q (leb-true (length t) 64 e) k

-- what a token is told to be is what it is
pub tells-apart : (t : List ℕ) → TellsApart t (token_of t)
unfolding token_of
tells-apart t = tells t (form_of t) refl

-- the whole contract of the reader, by the one equation
pub told : (t : List ℕ) (r : Token) → r ≡ token_of t → (r ≡ token_of t) × TellsApart t r
told t r e = (e, subst (TellsApart t) (sym e) (tells-apart t))
