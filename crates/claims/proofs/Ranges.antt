-- What each Range that is read is. Assumes nothing.
use Rattle.process_list.specs.declared.RangeEnd.{RangeEnd}
use Rattle.process_list.specs.declared.RangeEnd.TheVariants.{Minimum, Maximum}
use mathlib.Core.Path.{◌≡◌, refl}
use mathlib.Core.Bool.{Bool, true, false, cond}
use mathlib.Core.List.{List, [], ◌∷◌}
use mathlib.Core.Option.{Option, none, some}
use Prim.Native.Nat.{ℕ, zero, suc}
use native.Mathlib.Omega.{arith}
use lib.ListN.{get_or, set}
use Rattle.decimal.specs.declared.Decimal.{Decimal}
use Rattle.decimal.specs.Decimal as Decimals
use Rattle.decimal_write.specs.Written.{is_normal}
use Rattle.process_list.specs.List.{numbers_of, same_depth, range_clamps}
use Rattle.valid.specs.Valid.{shape_right, range_holds, one_end_holds, rules_hold, depths_right, sound}
use Rattle.xml.specs.Bytes.{bytes, same}
use Rattle.xml.specs.Xml.{Attribute}
use Rattle.xml.specs.Elements.{text_element}
use Rattle.clf.specs.Numbers.{any_number}
use Rattle.clf.specs.Nodes.{depth_at, or_else, node_rules, RangeState, range_index, value_at, all_there, in_order, in_of, out_of, only_pair, pair_equal, one_end_fault, range_missing, only_number, range_body}
use Rattle.clf.specs.Nodes.{range_holder, range_texts, style_at, one_end_allowed, one_end_allowed_by, four_node, one_end_node, range_node, range}
use Rattle.claims.proofs.Always.{Holds, holds-ret, holds-cond, holds-seq, holds_then}
use Rattle.claims.proofs.Numbers.{Each, Carried, Kept, Counted, value-holds}
use Rattle.claims.proofs.Held.{Ended, held-holds}
use Rattle.claims.proofs.Sound.{and-true, sound-by}
use Rattle.claims.proofs.Attributes.{IdAllowed, node_by}
use Rattle.claims.proofs.Tables.{OptHolds}

pub zero-carried : Carried Decimals.zero
unfolding is_normal
zero-carried = record { ranged = refl; settled = refl }

-- values that are there are numbers of our form
abbrev Values : List (Option Decimal) → Type 0
Values l = (i : ℕ) → OptHolds Carried (get_or l i none)

values-set : (l : List (Option Decimal)) (k : ℕ) (d : Decimal) → Carried d → Values l → Values (set l k (some d))
values-set [] k d c v i = v i
values-set (x ∷ l) zero d c v zero = c
values-set (x ∷ l) zero d c v (suc i) = v (suc i)
values-set (x ∷ l) (suc k) d c v zero = v zero
values-set (x ∷ l) (suc k) d c v (suc i) = values-set l k d c (λ j. v (suc j)) i

none_yet : Values (none ∷ none ∷ none ∷ none ∷ [])
none_yet zero = tt
none_yet (suc zero) = tt
none_yet (suc (suc zero)) = tt
none_yet (suc (suc (suc zero))) = tt
none_yet (suc (suc (suc (suc i)))) = tt

one-carried : (l : List Decimal) → Each (Kept any_number) l → Carried (only_number l)
one-carried [] h = zero-carried
one-carried (d ∷ l) h = h.0.carried

value-carried : (o : Option Decimal) → OptHolds Carried o → Carried (or_else Decimals.zero o)
value-carried none h = zero-carried
value-carried (some d) h = h

abbrev Begun : RangeState → Type 0
Begun st = Values st.values

body-holds : (st : RangeState) → Begun st → (w : List ℕ) → Holds Begun (range_body st w)
body-holds st v w =
    holds-cond (same w (bytes "Description")) (λ z. holds_then (text_element w) (λ t. holds-ret v))
    (λ z. holds-seq (Counted 1 any_number) (value-holds w 1 any_number)
    (λ l c. holds-ret (values-set st.values (range_index w) (only_number l) (one-carried l c.kept) v)))

carried-at : (st : RangeState) → Begun st → (i : ℕ) → Carried (value_at i st)
carried-at st v i = value-carried (get_or st.values i none) (v i)

-- ---- four values

in_order_lem : (st : RangeState) → ◌≡◌ {A = ℕ} (cond (in_order st) 0 21) 0 → in_order st ≡ true
in_order_lem st e = go (in_order st) refl e
  where
    go : (b : Bool) → in_order st ≡ b → ◌≡◌ {A = ℕ} (cond b 0 21) 0 → in_order st ≡ true
    go true q z = q
    go false q z = absurd (omega arith)

four-sound : (l : List Attribute) → IdAllowed l → (st : RangeState) → Begun st → in_order st ≡ true → sound (four_node l st) ≡ true
unfolding shape_right numbers_of rules_hold range_holds depths_right
four-sound l d st v q =
    let at = carried-at st v in
    sound-by (four_node l st) d (record { shape = refl; count = refl; each = (at 0, (at 1, (at 2, (at 3, tt)))); rules = q; depths = refl })

-- ---- one pair alone, of either end

module _ (l : List Attribute) (d : IdAllowed l) (st : RangeState) (v : Begun st) (e : RangeEnd) where
  -- nothing is wrong with it: the start tag allows it, and its two values are equal
  allowed : one_end_fault (one_end_allowed_by l) e st ≡ 0 → (one_end_allowed_by l ≡ true) × (pair_equal e st ≡ true)
  unfolding one_end_fault
  allowed z = go (one_end_allowed_by l) (pair_equal e st) z
    where
      go : (a b : Bool) → ◌≡◌ {A = ℕ} (cond a (cond b 0 21) 7) 0 → (a ≡ true) × (b ≡ true)
      go true true z = (refl, refl)
      go true false z = absurd (omega arith)
      go false b z = absurd (omega arith)

  depths-equal : one_end_allowed_by l ≡ true → same_depth (depth_at (bytes "inBitDepth") l) (depth_at (bytes "outBitDepth") l) ≡ true
  unfolding one_end_allowed_by one_end_allowed
  depths-equal z = (and-true (range_clamps (style_at l)) (same_depth (depth_at (bytes "inBitDepth") l) (depth_at (bytes "outBitDepth") l)) z).1

  one-end-sound : one_end_fault (one_end_allowed_by l) e st ≡ 0 → sound (one_end_node l e st) ≡ true
  unfolding shape_right numbers_of rules_hold one_end_holds pair_equal depths_right
  one-end-sound z =
      let at = carried-at st v in
      let a = allowed z in
      sound-by (one_end_node l e st) d (record { shape = refl; count = refl; each = (at (in_of e), (at (out_of e), tt)); rules = a.1; depths = depths-equal a.0 })

-- ---- a Range that is read: nothing is missing at its end tag

range-sound : (l : List Attribute) → IdAllowed l → (st : RangeState) → Begun st → range_missing (one_end_allowed_by l) st ≡ 0 → sound (range_node l st) ≡ true
unfolding range_missing
range-sound l d st v z = go (all_there st) (only_pair Minimum st) (only_pair Maximum st) z
  where
    fault_of : RangeEnd → ℕ
    fault_of e = one_end_fault (one_end_allowed_by l) e st

    go : (a b c : Bool) → ◌≡◌ {A = ℕ} (cond a (cond (in_order st) 0 21) (cond b (fault_of Minimum) (cond c (fault_of Maximum) 5))) 0
        → sound (cond a (four_node l st) (cond b (one_end_node l Minimum st) (one_end_node l Maximum st))) ≡ true
    go true b c z = four-sound l d st v (in_order_lem st z)
    go false true c z = one-end-sound l d st v Minimum z
    go false false true z = one-end-sound l d st v Maximum z
    go false false false z = absurd (omega arith)

pub range-holds : Holds (λ n. sound n ≡ true) range
unfolding range
range-holds =
    node_by range_texts (node_rules (λ w. 0) range_texts) refl
    (λ tag d. let h = range_holder (one_end_allowed_by tag.attributes) in
    holds-seq (Ended h Begun (λ st v w f q. body-holds st v w)) (held-holds h Begun (λ st v w f q. body-holds st v w) none_yet)
    (λ st e. holds-ret (range-sound tag.attributes d st e.state e.nothing)))
