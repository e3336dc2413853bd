-- What a sound element's numbers are to the reader: each kept to its rule. Assumes nothing.
use mathlib.Core.Path.{◌≡◌, refl, ap, ◌∙◌}
use mathlib.Core.Bool.{true, ◌&&◌}
use mathlib.Core.List.{List, [], ◌∷◌}
use Prim.Native.Nat.{ℕ, suc}
use native.Mathlib.Omega.{arith}
use lib.ListN.{length}
use Rattle.decimal.specs.declared.Decimal.{Decimal}
use Rattle.decimal.specs.Decimal.{in_range}
use Rattle.decimal_write.specs.Written.{is_normal}
use Rattle.decimal_value.specs.Value.{less, at_most, equal, not_negative, is_one}
use Rattle.valid.specs.Valid.{every, carried, range_holds, one_end_holds, slopes_hold, powers_hold, cdl_holds}
use Rattle.valid.proofs.Elements.{both_true}
use Rattle.valid.proofs.Readings.{every-cons}
use Rattle.clf.specs.Numbers.{any_number, not_below_zero, must_be_one}
use Rattle.claims.proofs.Numbers.{Each, Carried, Kept}
use Rattle.reads_back.proofs.One.{one-above}
use Rattle.reads_back.proofs.Cdls.{Ten}

-- ---- numbers of our form

pub is_carried : (d : Decimal) → carried d ≡ true → Carried d
unfolding carried
is_carried d h = let p = both_true (in_range d) (is_normal d) h in record { ranged = p.0; settled = p.1 }

pub any-kept : (ds : List Decimal) → every carried ds ≡ true → Each (Kept any_number) ds
any-kept [] h = tt
any-kept (d ∷ ds) h =
    let p = every-cons carried d ds h in
    (record { carried = is_carried d p.0; within = refl }, any-kept ds p.1)

not-below : (d : Decimal) → Carried d → not_negative d ≡ true → Kept not_below_zero d
not-below d c h = record { carried = c; within = rw h }

one_only : (d : Decimal) → Carried d → is_one d ≡ true → Kept must_be_one d
one_only d c h = record { carried = c; within = rw (one-above d h, h) }

-- ---- Range

pub record Four (ds : List Decimal) : Type 0 where
  pub a : Decimal
  pub b : Decimal
  pub c : Decimal
  pub d : Decimal
  pub is : ds ≡ a ∷ b ∷ c ∷ d ∷ []

pub four : (ds : List Decimal) → length ds ≡ 4 → Four ds
four [] h = absurd (omega arith)
four (a ∷ []) h = absurd (omega arith)
four (a ∷ b ∷ []) h = absurd (omega arith)
four (a ∷ b ∷ c ∷ []) h = absurd (omega arith)
four (a ∷ b ∷ c ∷ d ∷ []) h = record { a = a; b = b; c = c; d = d; is = refl }
four (a ∷ b ∷ c ∷ d ∷ e ∷ l) h = absurd (omega arith)

pub range-order : (a b c d : Decimal) → range_holds (a ∷ b ∷ c ∷ d ∷ []) ≡ true → (less a b && at_most c d) ≡ true
unfolding range_holds
range-order a b c d h = h

-- with one end

pub record Two (ds : List Decimal) : Type 0 where
  pub a : Decimal
  pub b : Decimal
  pub is : ds ≡ a ∷ b ∷ []

pub two : (ds : List Decimal) → length ds ≡ 2 → Two ds
two [] h = absurd (omega arith)
two (a ∷ []) h = absurd (omega arith)
two (a ∷ b ∷ []) h = record { a = a; b = b; is = refl }
two (a ∷ b ∷ c ∷ l) h = absurd (omega arith)

pub pair-equal : (a b : Decimal) → one_end_holds (a ∷ b ∷ []) ≡ true → equal a b ≡ true
unfolding one_end_holds
pair-equal a b h = h

-- ---- ASC_CDL

pub record TenOf (ds : List Decimal) : Type 0 where
  pub s1 : Decimal
  pub s2 : Decimal
  pub s3 : Decimal
  pub o1 : Decimal
  pub o2 : Decimal
  pub o3 : Decimal
  pub p1 : Decimal
  pub p2 : Decimal
  pub p3 : Decimal
  pub v : Decimal
  pub is : ds ≡ s1 ∷ s2 ∷ s3 ∷ o1 ∷ o2 ∷ o3 ∷ p1 ∷ p2 ∷ p3 ∷ v ∷ []

last_one : (ds : List Decimal) → length ds ≡ 1 → (v : Decimal) × (ds ≡ v ∷ [])
last_one [] h = absurd (omega arith)
last_one (v ∷ []) h = (v, refl)
last_one (v ∷ x ∷ l) h = absurd (omega arith)

three-more : (n : ℕ) (ds : List Decimal) → length ds ≡ suc (suc (suc n)) → (x : Decimal) × (y : Decimal) × (z : Decimal) × (l : List Decimal) × (ds ≡ x ∷ y ∷ z ∷ l) × (length l ≡ n)
three-more n [] h = absurd (omega arith)
three-more n (x ∷ []) h = absurd (omega arith)
three-more n (x ∷ y ∷ []) h = absurd (omega arith)
three-more n (x ∷ y ∷ z ∷ l) h = (x, y, z, l, refl, omega arith)

pub ten-of : (ds : List Decimal) → length ds ≡ 10 → TenOf ds
ten-of ds h =
    let a = three-more 7 ds h in
    let b = three-more 4 a.3 a.5 in
    let c = three-more 1 b.3 b.5 in
    let d = last_one c.3 c.5 in
    record {
      s1 = a.0;
      s2 = a.1;
      s3 = a.2;
      o1 = b.0;
      o2 = b.1;
      o3 = b.2;
      p1 = c.0;
      p2 = c.1;
      p3 = c.2;
      v = d.0;
      is = a.4
          ∙ ap (λ (l : List Decimal). a.0 ∷ a.1 ∷ a.2 ∷ l) (b.4
          ∙ ap (λ (l : List Decimal). b.0 ∷ b.1 ∷ b.2 ∷ l) (c.4
          ∙ ap (λ (l : List Decimal). c.0 ∷ c.1 ∷ c.2 ∷ l) d.1));
    }

module _ (s1 s2 s3 o1 o2 o3 p1 p2 p3 v : Decimal) where
  abbrev ten : List Decimal
  ten = s1 ∷ s2 ∷ s3 ∷ o1 ∷ o2 ∷ o3 ∷ p1 ∷ p2 ∷ p3 ∷ v ∷ []

  slopes-hold : cdl_holds ten ≡ true → (slopes_hold ten ≡ true) × (powers_hold ten ≡ true) × (not_negative v ≡ true)
  unfolding cdl_holds
  slopes-hold h =
      let p = both_true (slopes_hold ten && powers_hold ten) (not_negative v) h in
      let q = both_true (slopes_hold ten) (powers_hold ten) p.0 in
      (q.0, q.1, p.1)

  three-slopes : slopes_hold ten ≡ true → (not_negative s1 ≡ true) × (not_negative s2 ≡ true) × (not_negative s3 ≡ true)
  unfolding slopes_hold
  three-slopes h =
      let p = both_true (not_negative s1 && not_negative s2) (not_negative s3) h in
      let q = both_true (not_negative s1) (not_negative s2) p.0 in
      (q.0, q.1, p.1)

  three-powers : powers_hold ten ≡ true → (is_one p1 ≡ true) × (is_one p2 ≡ true) × (is_one p3 ≡ true)
  unfolding powers_hold
  three-powers h =
      let p = both_true (is_one p1 && is_one p2) (is_one p3) h in
      let q = both_true (is_one p1) (is_one p2) p.0 in
      (q.0, q.1, p.1)

  pub ten-kept : every carried ten ≡ true → cdl_holds ten ≡ true → Ten s1 s2 s3 o1 o2 o3 p1 p2 p3 v
  ten-kept h r =
      let k : Each (Kept any_number) ten = any-kept ten h in
      let x = slopes-hold r in
      let s = three-slopes x.0 in
      let p = three-powers x.1 in
      let k3 = k.1.1.1 in
      let k6 = k3.1.1.1 in
      let k9 = k6.1.1.1 in
      record {
        slopes = (not-below s1 k.0.carried s.0, (not-below s2 k.1.0.carried s.1, (not-below s3 k.1.1.0.carried s.2, tt)));
        offsets = (k3.0, (k3.1.0, (k3.1.1.0, tt)));
        powers = (one_only p1 k6.0.carried p.0, (one_only p2 k6.1.0.carried p.1, (one_only p3 k6.1.1.0.carried p.2, tt)));
        saturation = not-below v k9.0.carried x.2;
      }
