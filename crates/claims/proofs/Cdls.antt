-- What each ASC_CDL that is read is. Assumes nothing.
use Rattle.process_list.specs.declared.CdlStyle.{CdlStyle}
use Rattle.process_list.specs.declared.Depth.{Depth}
use mathlib.Core.Path.{◌≡◌, refl, sym, ap, ◌∙◌, subst}
use mathlib.Core.Bool.{Bool, true, false, cond, not}
use mathlib.Core.List.{List, [], ◌∷◌, ◌++◌}
use mathlib.Core.Option.{Option, none, some}
use Prim.Native.Nat.{ℕ, zero, ◌≤◌, ◌<◌}
use native.Mathlib.Omega.{arith}
use lib.Dec.{ltb}
use lib.Ieee.{of_int, mul, le, lt, eq}
use lib.ListN.{length, length-append}
use borrow.Author.Tests.{ltb-false}
use Rattle.decimal.specs.declared.Decimal.{Decimal}
use Rattle.decimal.specs.Decimal as Decimals
use Rattle.decimal_write.specs.Written.{is_normal}
use Rattle.decimal_value.specs.Value.{not_negative, positive, is_one, value_of, powered, ten_to}
use Rattle.process_list.specs.declared.Kind.TheVariants.{Cdl}
use Rattle.process_list.specs.List.{numbers_of}
use Rattle.valid.specs.Valid.{shape_right, slopes_hold, powers_hold, cdl_holds, rules_hold, depths_right, sound}
use Rattle.grammar.specs.Laws.{nope}
use Rattle.xml.specs.Bytes.{bytes, same}
use Rattle.xml.specs.Xml.{text_of, Tag, start_tag}
use Rattle.xml.specs.Elements.{text_element}
use Rattle.clf.specs.Numbers.{any_number, not_below_zero, must_be_one}
use Rattle.clf.specs.Nodes.{cdl_style, or_else, not_empty_rules, sop_name, sop_rule, sop_holder, sop_node, sat_holder, sat_node, CdlState, cdl_body, cdl_holder, one_number, three_times}
use Rattle.clf.specs.Nodes.{sop_numbers, sat_numbers, cdl_texts, cdl_node, cdl_rules, cdl_content, asc_cdl}
use Rattle.claims.proofs.Always.{Holds, holds-ret, holds-cond, holds-seq, holds_then}
use Rattle.claims.proofs.Numbers.{Each, each_more, each_map, Carried, Kept, Counted, value-holds}
use Rattle.claims.proofs.Held.{Ended, held-holds}
use Rattle.claims.proofs.Sound.{Right, sound-by}
use Rattle.claims.proofs.Attributes.{node_by}
use Rattle.claims.proofs.Tables.{OptHolds}
use Rattle.claims.proofs.Ranges.{zero-carried}

-- a fault that is not there
no-fault : (v : Bool) → ◌≡◌ {A = ℕ} (cond v 0 5) 0 → v ≡ true
no-fault true z = refl
no-fault false z = absurd (omega arith)

nothing-short : (n m : ℕ) → ◌≡◌ {A = ℕ} (cond (ltb n m) 5 0) 0 → m ≤ n
nothing-short n m e = go (ltb n m) refl e
  where
    go : (v : Bool) → ltb n m ≡ v → ◌≡◌ {A = ℕ} (cond v 5 0) 0 → m ≤ n
    go true q z = absurd (omega arith)
    go false q z = ltb-false n m q

-- a name that has a byte is not the empty one
not-empty : {X : Type 0} (w : List ℕ) → 0 < length w → same w [] ≡ true → X
unfolding same
not-empty [] h e = absurd (omega arith)
not-empty (b ∷ w) h e = nope cc

-- ---- SOPNode: three Slopes, three Offsets, three Powers

data Sop (l : List Decimal) : Type 0 where
  no_slope : l ≡ [] → Sop l
  slope : (a : List Decimal) → Counted 3 not_below_zero a → l ≡ a → Sop l
  offset : (a b : List Decimal) → Counted 3 not_below_zero a → Counted 3 any_number b → l ≡ a ++ b → Sop l
  power : (a b c : List Decimal) → Counted 3 not_below_zero a → Counted 3 any_number b → Counted 3 must_be_one c → l ≡ (a ++ b) ++ c → Sop l

pub record Nine (l : List Decimal) : Type 0 where
  pub a : List Decimal
  pub b : List Decimal
  pub c : List Decimal
  pub slopes : Counted 3 not_below_zero a
  pub offsets : Counted 3 any_number b
  pub powers : Counted 3 must_be_one c
  pub is : l ≡ (a ++ b) ++ c

next-three : (l : List Decimal) → Sop l → (w : List ℕ) → 0 < length w → same w (sop_name (length l)) ≡ true → (m : List Decimal) → Counted 3 (sop_rule (length l)) m → Sop (l ++ m)
next-three l (no_slope e) w h q m k = slope m (subst (λ (x : List Decimal). Counted 3 (sop_rule (length x)) m) e k) (ap (λ (x : List Decimal). x ++ m) e)
next-three l (slope a ka e) w h q m k =
    offset a m ka (subst (λ (n : ℕ). Counted 3 (sop_rule n) m) (ap length e ∙ ka.count) k) (ap (λ (x : List Decimal). x ++ m) e)
next-three l (offset a b ka kb e) w h q m k =
    let n : length l ≡ 6 = ap length e ∙ length-append a b ∙ omega (arith, ka.count, kb.count) in
    power a b m ka kb (subst (λ (n : ℕ). Counted 3 (sop_rule n) m) n k) (ap (λ (x : List Decimal). x ++ m) e)
next-three l (power a b c ka kb kc e) w h q m k =
    let n : length l ≡ 9 = ap length e ∙ length-append (a ++ b) c ∙ omega (arith, length-append a b, ka.count, kb.count, kc.count) in
    not-empty w h (subst (λ (n : ℕ). same w (sop_name n) ≡ true) n q)

sop-body : (l : List Decimal) → Sop l → (w : List ℕ) → 0 < length w → sop_holder.fault l w ≡ 0 → Holds Sop (sop_holder.body l w)
sop-body l i w h q =
    holds-seq (Counted 3 (sop_rule (length l))) (value-holds w 3 (sop_rule (length l)))
    (λ m k. holds-ret (next-three l i w h (no-fault (same w (sop_name (length l))) q) m k))

sop-nine : (l : List Decimal) → Sop l → 9 ≤ length l → Nine l
sop-nine l (no_slope e) h = absurd (omega (arith, ap length e))
sop-nine l (slope a ka e) h = absurd (omega (arith, ap length e, ka.count))
sop-nine l (offset a b ka kb e) h = absurd (omega (arith, ap length e, length-append a b, ka.count, kb.count))
sop-nine l (power a b c ka kb kc e) h = record { a = a; b = b; c = c; slopes = ka; offsets = kb; powers = kc; is = e }

sop-holds : Holds Nine sop_node
unfolding sop_node
sop-holds =
    holds_then (start_tag not_empty_rules) (λ tag.
    record {
      value = λ s l r e.
          let k : Ended sop_holder Sop sop-body l = (held-holds sop_holder Sop sop-body (no_slope refl)).value s l r e in
          sop-nine l k.state (nothing-short (length l) 9 k.nothing);
    })

-- ---- SatNode: one Saturation

data Sat (l : List Decimal) : Type 0 where
  no_sat : l ≡ [] → Sat l
  sat : Counted 1 not_below_zero l → Sat l

sat-next : (l : List Decimal) → Sat l → (w : List ℕ) → sat_holder.fault l w ≡ 0 → (m : List Decimal) → Counted 1 not_below_zero m → Sat (l ++ m)
sat-next l (no_sat e) w q m k = sat (subst (λ (x : List Decimal). Counted 1 not_below_zero (x ++ m)) (sym e) k)
sat-next l (sat c) w q m k = absurd (omega (arith, subst (λ (n : ℕ). ◌≡◌ {A = ℕ} (cond (ltb n 1) (cond (same w (bytes "Saturation")) 0 5) 5) 0) c.count q))

sat-body : (l : List Decimal) → Sat l → (w : List ℕ) → 0 < length w → sat_holder.fault l w ≡ 0 → Holds Sat (sat_holder.body l w)
sat-body l i w h q = holds-seq (Counted 1 not_below_zero) (value-holds w 1 not_below_zero) (λ m k. holds-ret (sat-next l i w q m k))

sat-one : (l : List Decimal) → Sat l → 1 ≤ length l → Counted 1 not_below_zero l
sat-one l (no_sat e) h = absurd (omega (arith, ap length e))
sat-one l (sat c) h = c

sat-holds : Holds (Counted 1 not_below_zero) sat_node
unfolding sat_node
sat-holds =
    holds_then (start_tag not_empty_rules) (λ tag.
    record {
      value = λ s l r e.
          let k : Ended sat_holder Sat sat-body l = (held-holds sat_holder Sat sat-body (no_sat refl)).value s l r e in
          sat-one l k.state (nothing-short (length l) 1 k.nothing);
    })

-- ---- 'Absent parts read as 1, 0, 1 and 1'

one-carried : Carried one_number
unfolding is_normal
one-carried = record { ranged = refl; settled = refl }

one-not-below : Kept not_below_zero one_number
unfolding not_negative value_of powered ten_to le of_int mul
one-not-below = record { carried = one-carried; within = refl }

one_only : Kept must_be_one one_number
unfolding positive is_one value_of powered ten_to lt eq of_int mul
one_only = record { carried = one-carried; within = refl }

zero-any : Kept any_number Decimals.zero
zero-any = record { carried = zero-carried; within = refl }

sop-absent : Nine (three_times one_number ++ three_times Decimals.zero ++ three_times one_number)
sop-absent = record {
  a = three_times one_number;
  b = three_times Decimals.zero;
  c = three_times one_number;
  slopes = record { count = refl; kept = (one-not-below, (one-not-below, (one-not-below, tt))) };
  offsets = record { count = refl; kept = (zero-any, (zero-any, (zero-any, tt))) };
  powers = record { count = refl; kept = (one_only, (one_only, (one_only, tt))) };
  is = refl;
}

sop-there : (o : Option (List Decimal)) → OptHolds Nine o → Nine (or_else (three_times one_number ++ three_times Decimals.zero ++ three_times one_number) o)
sop-there none h = sop-absent
sop-there (some l) h = h

sat-there : (o : Option (List Decimal)) → OptHolds (Counted 1 not_below_zero) o → Counted 1 not_below_zero (or_else (one_number ∷ []) o)
sat-there none h = record { count = refl; kept = (one-not-below, tt) }
sat-there (some l) h = h

-- ---- ASC_CDL

record Begun (st : CdlState) : Type 0 where
  sop : OptHolds Nine st.sop
  sat : OptHolds (Counted 1 not_below_zero) st.sat

cdl-body : (st : CdlState) → Begun st → (w : List ℕ) → Holds Begun (cdl_body st w)
cdl-body st i w =
    holds-cond (same w (bytes "SOPNode")) (λ z. holds-seq Nine sop-holds (λ l k. holds-ret (record { sop = k; sat = i.sat })))
    (λ z. holds-cond (same w (bytes "SatNode")) (λ z. holds-seq (Counted 1 not_below_zero) sat-holds (λ l k. holds-ret (record { sop = i.sop; sat = k })))
    (λ z. holds_then (text_element w) (λ t. holds-ret i)))

content-holds : (tag : Tag) → Holds Begun (cdl_content tag)
content-holds tag =
    holds-cond tag.empty (λ z. holds-ret (record { sop = tt; sat = tt }))
    (λ z. record {
      value = λ s st r e.
          let k : Ended cdl_holder Begun (λ st i w h q. cdl-body st i w) st = (held-holds cdl_holder Begun (λ st i w h q. cdl-body st i w) (record { sop = tt; sat = tt })).value s st r e in
          k.state;
    })

-- ---- the ten numbers

record Three (rule : Decimal → ℕ) (l : List Decimal) : Type 0 where
  x : Decimal
  y : Decimal
  z : Decimal
  kx : Kept rule x
  ky : Kept rule y
  kz : Kept rule z
  is : l ≡ x ∷ y ∷ z ∷ []

three : (rule : Decimal → ℕ) (l : List Decimal) → Counted 3 rule l → Three rule l
three rule [] k = absurd (omega (arith, k.count))
three rule (x ∷ []) k = absurd (omega (arith, k.count))
three rule (x ∷ y ∷ []) k = absurd (omega (arith, k.count))
three rule (x ∷ y ∷ z ∷ []) k = record { x = x; y = y; z = z; kx = k.kept.0; ky = k.kept.1.0; kz = k.kept.1.1.0; is = refl }
three rule (x ∷ y ∷ z ∷ v ∷ l) k = absurd (omega (arith, k.count))

not-below : (d : Decimal) → Kept not_below_zero d → not_negative d ≡ true
not-below d k = go (not_negative d) k.within
  where
    go : (v : Bool) → ◌≡◌ {A = ℕ} (cond v 0 21) 0 → v ≡ true
    go true z = refl
    go false z = absurd (omega arith)

is_one_lem : (d : Decimal) → Kept must_be_one d → is_one d ≡ true
is_one_lem d k = go (positive d) (is_one d) k.within
  where
    go : (v w : Bool) → ◌≡◌ {A = ℕ} (cond v (cond w 0 7) 21) 0 → w ≡ true
    go true true z = refl
    go true false z = absurd (omega arith)
    go false w z = absurd (omega arith)

cdl-rules : (l m : List Decimal) → Nine l → Counted 1 not_below_zero m → cdl_holds (l ++ m) ≡ true
unfolding cdl_holds slopes_hold powers_hold
cdl-rules l [] n k = absurd (omega (arith, k.count))
cdl-rules l (d ∷ e ∷ m) n k = absurd (omega (arith, k.count))
cdl-rules l (d ∷ []) n k =
    let a : Three not_below_zero n.a = three not_below_zero n.a n.slopes in
    let b : Three any_number n.b = three any_number n.b n.offsets in
    let c : Three must_be_one n.c = three must_be_one n.c n.powers in
    subst (λ (x : List Decimal). cdl_holds (x ++ d ∷ []) ≡ true) (sym n.is)
    (rw (
      a.is,
      b.is,
      c.is,
      not-below a.x a.kx,
      not-below a.y a.ky,
      not-below a.z a.kz,
      is_one_lem c.x c.kx,
      is_one_lem c.y c.ky,
      is_one_lem c.z c.kz,
      not-below d
          k.kept.0,
    ))

nine-each : (l : List Decimal) → Nine l → Each Carried l
nine-each l n =
    subst (Each Carried) (sym n.is)
    (each_more Carried (n.a ++ n.b) n.c
    (each_more Carried n.a n.b (each_map (Kept not_below_zero) Carried n.a (λ d k. k.carried) n.slopes.kept)
    (each_map (Kept any_number) Carried n.b (λ d k. k.carried) n.offsets.kept))
    (each_map (Kept must_be_one) Carried n.c (λ d k. k.carried) n.powers.kept))

nine-length : (l : List Decimal) → Nine l → length l ≡ 9
nine-length l n =
    ap length n.is ∙ length-append (n.a ++ n.b) n.c ∙ omega (arith, length-append n.a n.b, n.slopes.count, n.offsets.count, n.powers.count)

cdl-right : (style : CdlStyle) (input output : Depth) (l m : List Decimal) → Nine l → Counted 1 not_below_zero m → Right (Cdl style) input output (l ++ m)
unfolding shape_right numbers_of rules_hold depths_right
cdl-right style input output l m n k = record {
  shape = refl;
  count = length-append l m ∙ omega (arith, nine-length l n, k.count);
  each = each_more Carried l m (nine-each l n) (each_map (Kept not_below_zero) Carried m (λ d k. k.carried) k.kept);
  rules = cdl-rules l m n k;
  depths = refl;
}

pub cdl-holds : Holds (λ n. sound n ≡ true) asc_cdl
unfolding asc_cdl
cdl-holds =
    node_by cdl_texts cdl_rules refl (λ tag d. holds-seq Begun (content-holds tag)
    (λ st i. holds-ret (sound-by (cdl_node tag.attributes st) d
    (cdl-right (cdl_style (text_of (bytes "style") tag.attributes)) _ _ (sop_numbers st) (sat_numbers st) (sop-there st.sop i.sop) (sat-there st.sat i.sat)))))
