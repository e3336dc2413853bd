-- Which numbers the faults of a text have, and what stands at a 9 or a 25: nodes. Assumes nothing.
use mathlib.Core.Path.{◌≡◌, refl, sym, ap, ◌∙◌, subst}
use mathlib.Core.Bool.{Bool, true, false, cond, ◌&&◌, ◌||◌}
use mathlib.Core.List.{List, [], ◌∷◌, ◌++◌}
use mathlib.Core.Option.{Option, none, some}
use Prim.Native.Nat.{ℕ, suc, ◌≤◌}
use native.Mathlib.Omega.{arith}
use lib.Dec.{eqb, leb, ltb}
use lib.ListN.{length, set}
use Rattle.decimal.specs.declared.Decimal.{Decimal}
use Rattle.decimal.specs.Decimal.{Token}
use Rattle.std.specs.Prelude.{Ok, Err}
use Rattle.decimal.specs.declared.NumberFault.TheVariants.{Malformed, OutOfBounds}
use Rattle.decimal_read.specs.Number.{token_of}
use Rattle.decimal_read.proofs.Told.{tells-apart}
use Rattle.decimal_value.specs.Value.{not_negative, positive, is_one}
use Rattle.process_list.specs.declared.RangeEnd.{RangeEnd}
use Rattle.process_list.specs.declared.RangeEnd.TheVariants.{Minimum, Maximum}
use Rattle.process_list.specs.declared.Kind.{Kind}
use Rattle.process_list.specs.List.{numbers_of}
use Rattle.grammar.specs.Parse.{done, again, last}
use Rattle.grammar.specs.Grammar.{judge}
use Rattle.xml.specs.Bytes.{bytes, same, is_space, less_than}
use Rattle.xml.specs.Xml.{Attribute, is_named, text_of}
use Rattle.xml.specs.Elements.{held}
use Rattle.ids.specs.Ids.{id_right, most_node_id_bytes}
use Rattle.clf.specs.Numbers.{ends_token, token, said_by, fault_of, numbers, any_number, not_below_zero, must_be_one, value_rules, value_element}
use Rattle.clf.specs.Nodes.{is_some, depth_of, node_texts, node_missing, node_rules, matrix_shape, lut_shape, cube_shape_by, array_rules, array_of, array, no_array, array_holder, table_node}
use Rattle.clf.specs.Nodes.{matrix, lut_names, lut_texts, lut1d, cube_texts, lut3d, range_index, RangeState, no_values, is_there, any_there, all_there, in_order, only_pair, pair_equal, one_end_fault, range_missing, only_number}
use Rattle.clf.specs.Nodes.{range_holder, range_texts, one_end_allowed_by, range_node, range, not_empty_rules}
use Rattle.clf.specs.Nodes.{sop_name, sop_rule, sop_holder, sop_node, sat_holder, sat_node, CdlState, no_cdl, cdl_fault, cdl_body, cdl_holder, cdl_texts, cdl_node, cdl_rules, asc_cdl, NodeName}
use Rattle.clf.specs.Nodes.{is_matrix, is_lut1d, is_range, is_cdl, is_lut3d, not_carried, no_node, node_fault, node_body}
use Rattle.claims.proofs.Faults.{BlamesOn, fair-zero, fair-cond, blames-ret, blames-bad, blames-cond, blames-look, look-on, cond-on, seq_on, judge-on, blames-on, Begins, blames-judge, blames-eat, blames-seq, blames-loop}
use Rattle.claims.proofs.Tokens.{token-some}
use Rattle.claims.proofs.Blamed.{Textual, Well, Right, other, right, five, RightRules, text-well, start_tag-well, held-well, only_end-well, text_element-well}

seven : Right 7
seven = right 7 refl

pub eight : Right 8
eight = right 8 refl

twenty_one : Right 21
twenty_one = right 21 refl

twenty_two : Right 22
twenty_two = right 22 refl

twenty_four : Right 24
twenty_four = right 24 refl

-- ---- numbers

module _ (n : ℕ) (rule : Decimal → ℕ) (h : (d : Decimal) → Right (rule d)) (count : ℕ) (r : List ℕ) where
  -- a token w that stands where r begins, by what the number reader says of it
  token-textual : (w u : List ℕ) → token.run r ≡ done (tt, w) u → 1 ≤ length w → (t : Token) → token_of w ≡ t → (k : ℕ) → fault_of n rule count t ≡ suc k → Textual (suc k) r
  token-textual w u q i (Ok d) e k z = (fair-cond (leb n count) twenty_two (h d)).is k z r
  token-textual w u q i (Err Malformed) e k z = subst (λ (m : ℕ). Textual m r) z (record {
    known = refl;
    told = record { malformed = λ y. record { bytes = w; rest = u; stands = q; some = i; holds = (tells-apart w).malformed.0 e }; out_of_bounds = λ y. absurd (omega arith) };
  })
  token-textual w u q i (Err OutOfBounds) e k z = by (leb n count) z
    where
      long : Textual 25 r
      long = record {
        known = refl;
        told = record { malformed = λ y. absurd (omega arith); out_of_bounds = λ y. record { bytes = w; rest = u; stands = q; some = i; holds = (tells-apart w).out_of_bounds.0 e } };
      }

      by : (v : Bool) → cond v 22 25 ≡ suc k → Textual (suc k) r
      by true y = twenty_two.is k y r
      by false y = subst (λ (m : ℕ). Textual m r) y long

-- a byte that is neither white space nor `<` ends no token
ends-none : (b : ℕ) → is_space b ≡ false → eqb b less_than ≡ false → ends_token b ≡ false
ends-none b h k = rw (h, k)

module _ (w : List ℕ) (n : ℕ) (rule : Decimal → ℕ) (h : (d : Decimal) → Right (rule d)) where
  -- the token at a byte that ends none
  token-well : (l : List Decimal) (b : ℕ) → ends_token b ≡ false → BlamesOn (Begins b) Textual (judge (λ t. fault_of n rule (length l) (token_of t.1)) token)
  unfolding token
  token-well l b e =
      judge-on (λ t. fault_of n rule (length l) (token_of t.1))
      (λ s i t u q k z. token-textual n rule h (length l) s t.1 u q (token-some b i.0 e t.1 u (sym (ap (λ (x : List ℕ). token.run x) i.1) ∙ q)) (token_of t.1) refl k z)
      (text-well ends_token)

  numbers-well : Well (numbers w n rule)
  unfolding numbers
  numbers-well =
      blames-loop (λ l. look-on (λ b.
      cond-on (is_space b) (λ z. blames-on (blames-seq blames-eat (λ a. blames-ret (again l))))
      (λ z. cond-on (eqb b less_than)
      (λ y. blames-on (blames-seq (only_end-well w (cond (ltb (length l) n) 22 0) (fair-cond (ltb (length l) n) twenty_two fair-zero)) (λ a. blames-ret (last l))))
      (λ y. seq_on (token-well l b (ends-none b z y)) (λ t. blames-ret (again (l ++ said_by (token_of t.1) ∷ []))))))) []

  value-well : Well (value_element w n rule)
  unfolding value_element
  value-well = blames-seq (start_tag-well value_rules (record { names = λ w. fair-zero; texts = λ w t. fair-zero; opened = λ l. fair-zero; emptied = λ l. twenty_two })) (λ a. numbers-well)

any-right : (d : Decimal) → Right (any_number d)
any-right d = fair-zero

below_right : (d : Decimal) → Right (not_below_zero d)
below_right d = fair-cond (not_negative d) fair-zero twenty_one

one_right : (d : Decimal) → Right (must_be_one d)
one_right d = fair-cond (positive d) (fair-cond (is_one d) fair-zero seven) twenty_one

-- ---- start tags of nodes

node-texts : (rest : List ℕ → List ℕ → ℕ) → ((w t : List ℕ) → Right (rest w t)) → (w t : List ℕ) → Right (node_texts rest w t)
node-texts rest h w t =
    fair-cond (same w (bytes "inBitDepth") || same w (bytes "outBitDepth")) (fair-cond (is_some (depth_of t)) fair-zero eight)
    (fair-cond (same w (bytes "id")) (fair-cond (id_right most_node_id_bytes t) fair-zero twenty_four) (h w t))

node-missing : (l : List Attribute) → Right (node_missing l)
node-missing l = fair-cond (is_named (bytes "inBitDepth") l && is_named (bytes "outBitDepth") l) fair-zero eight

node-rules : (names : List ℕ → ℕ) (texts : List ℕ → List ℕ → ℕ) → ((w : List ℕ) → Right (names w)) → ((w t : List ℕ) → Right (texts w t)) → RightRules (node_rules names texts)
node-rules names texts a b = record { names = a; texts = node-texts texts b; opened = node-missing; emptied = λ l. five }

-- ---- Matrix, LUT1D and LUT3D

module _ (shape : List ℕ → Option Kind) where
  array_of-well : (o : Option Kind) → Well (array_of o)
  array_of-well none = blames-bad 8 (other 8 refl)
  array_of-well (some k) = blames-seq (numbers-well (bytes "Array") (numbers_of k) any_number any-right) (λ l. blames-ret (k, l))

  array-rules : RightRules (array_rules shape)
  array-rules = record {
    names = λ w. fair-zero;
    texts = λ w t. fair-cond (same w (bytes "dim")) (fair-cond (is_some (shape t)) fair-zero eight) fair-zero;
    opened = λ l. fair-cond (is_named (bytes "dim") l) fair-zero eight;
    emptied = λ l. fair-cond (is_named (bytes "dim") l) twenty_two eight;
  }

  array-well : Well (array shape)
  unfolding array
  array-well = blames-seq (start_tag-well (array_rules shape) array-rules) (λ tag. array_of-well (shape (text_of (bytes "dim") tag.attributes)))

  table-well : (w : List ℕ) → Well (held (array_holder w shape) no_array)
  table-well w =
      held-well (array_holder w shape) (λ st. fair-cond (is_some st.table) fair-zero five)
      (λ st v. fair-cond (is_some st.table) five (fair-cond (same v (bytes "Array") || same v (bytes "Description")) fair-zero five))
      (λ st v. blames-cond (same v (bytes "Array")) (blames-seq array-well (λ t. blames-ret (record { table = some t })))
      (blames-seq (text_element-well v) (λ t. blames-ret st)))
      no_array

matrix-well : Well matrix
unfolding matrix
matrix-well =
    blames-seq (start_tag-well (node_rules (λ w. 0) (λ w t. 0)) (node-rules (λ w. 0) (λ w t. 0) (λ w. fair-zero) (λ w t. fair-zero)))
    (λ tag. blames-seq (table-well matrix_shape (bytes "Matrix")) (λ st. blames-ret (table_node tag.attributes st)))

lut1d-well : Well lut1d
unfolding lut1d
lut1d-well =
    blames-seq (start_tag-well (node_rules lut_names lut_texts) (node-rules lut_names lut_texts
    (λ w. fair-cond (same w (bytes "halfDomain") || same w (bytes "rawHalfs")) seven fair-zero)
    (λ w t. fair-cond (same w (bytes "interpolation")) (fair-cond (same t (bytes "linear")) fair-zero eight) fair-zero)))
    (λ tag. blames-seq (table-well lut_shape (bytes "LUT1D")) (λ st. blames-ret (table_node tag.attributes st)))

lut3d-well : Well lut3d
unfolding lut3d
lut3d-well =
    blames-seq (start_tag-well (node_rules (λ w. 0) cube_texts) (node-rules (λ w. 0) cube_texts (λ w. fair-zero)
    (λ w t. fair-cond (same w (bytes "interpolation")) (fair-cond (same t (bytes "trilinear") || same t (bytes "tetrahedral")) fair-zero eight) fair-zero)))
    (λ tag. blames-seq (table-well (cube_shape_by tag.attributes) (bytes "LUT3D")) (λ st. blames-ret (table_node tag.attributes st)))

-- ---- Range

one-end-right : (allowed : Bool) (e : RangeEnd) (st : RangeState) → Right (one_end_fault allowed e st)
unfolding one_end_fault
one-end-right allowed e st = fair-cond allowed (fair-cond (pair_equal e st) fair-zero twenty_one) seven

range-right : (allowed : Bool) (st : RangeState) → Right (range_missing allowed st)
unfolding range_missing
range-right allowed st =
    fair-cond (all_there st) (fair-cond (in_order st) fair-zero twenty_one)
    (fair-cond (only_pair Minimum st) (one-end-right allowed Minimum st) (fair-cond (only_pair Maximum st) (one-end-right allowed Maximum st) five))

range-content : (allowed : Bool) → Well (held (range_holder allowed) no_values)
range-content allowed =
    held-well (range_holder allowed) (range-right allowed)
    (λ st w. fair-cond (same w (bytes "Description")) (fair-cond (any_there st) five fair-zero) (fair-cond (ltb (range_index w) 4) (fair-cond (is_there (range_index w) st) five fair-zero) five))
    (λ st w. blames-cond (same w (bytes "Description")) (blames-seq (text_element-well w) (λ t. blames-ret st))
    (blames-seq (value-well w 1 any_number any-right) (λ l. blames-ret (record { values = set st.values (range_index w) (some (only_number l)) }))))
    no_values

range-well : Well range
unfolding range
range-well =
    blames-seq (start_tag-well (node_rules (λ w. 0) range_texts) (node-rules (λ w. 0) range_texts (λ w. fair-zero)
    (λ w t. fair-cond (same w (bytes "style")) (fair-cond (same t (bytes "Clamp") || same t (bytes "noClamp")) fair-zero eight) fair-zero)))
    (λ tag. blames-seq (range-content (one_end_allowed_by tag.attributes)) (λ st. blames-ret (range_node tag.attributes st)))

-- ---- ASC_CDL

holder-rules : RightRules not_empty_rules
holder-rules = record { names = λ w. fair-zero; texts = λ w t. fair-zero; opened = λ l. fair-zero; emptied = λ l. five }

sop-right : (v w : Bool) (d : Decimal) → Right (cond v not_below_zero (cond w any_number must_be_one) d)
sop-right true w d = below_right d
sop-right false true d = any-right d
sop-right false false d = one_right d

sop-well : Well sop_node
unfolding sop_node
sop-well =
    blames-seq (start_tag-well not_empty_rules holder-rules) (λ tag.
    held-well sop_holder (λ l. fair-cond (ltb (length l) 9) five fair-zero) (λ l w. fair-cond (same w (sop_name (length l))) fair-zero five)
    (λ l w. blames-seq (value-well w 3 (sop_rule (length l)) (sop-right (eqb (length l) 0) (eqb (length l) 3))) (λ m. blames-ret (l ++ m))) [])

sat-well : Well sat_node
unfolding sat_node
sat-well =
    blames-seq (start_tag-well not_empty_rules holder-rules) (λ tag.
    held-well sat_holder (λ l. fair-cond (ltb (length l) 1) five fair-zero) (λ l w. fair-cond (ltb (length l) 1) (fair-cond (same w (bytes "Saturation")) fair-zero five) five)
    (λ l w. blames-seq (value-well w 1 not_below_zero below_right) (λ m. blames-ret (l ++ m))) [])

cdl-fault : (st : CdlState) (w : List ℕ) → Right (cdl_fault st w)
cdl-fault st w =
    fair-cond (same w (bytes "Description")) (fair-cond (is_some st.sop || is_some st.sat) five fair-zero)
    (fair-cond (same w (bytes "SOPNode")) (fair-cond (is_some st.sop || is_some st.sat) five fair-zero)
    (fair-cond (same w (bytes "SatNode")) (fair-cond (is_some st.sat) five fair-zero) five))

cdl-body : (st : CdlState) (w : List ℕ) → Well (cdl_body st w)
cdl-body st w =
    blames-cond (same w (bytes "SOPNode")) (blames-seq sop-well (λ l. blames-ret (record { sop = some l; sat = st.sat })))
    (blames-cond (same w (bytes "SatNode")) (blames-seq sat-well (λ l. blames-ret (record { sop = st.sop; sat = some l })))
    (blames-seq (text_element-well w) (λ t. blames-ret st)))

cdl-texts : (w t : List ℕ) → Right (cdl_texts w t)
cdl-texts w t =
    fair-cond (same w (bytes "style"))
    (fair-cond (same t (bytes "Fwd") || same t (bytes "FwdNoClamp")) fair-zero (fair-cond (same t (bytes "Rev") || same t (bytes "RevNoClamp")) seven eight)) fair-zero

cdl-well : Well asc_cdl
unfolding asc_cdl
cdl-well =
    blames-seq (start_tag-well cdl_rules (record { names = λ w. fair-zero; texts = node-texts cdl_texts cdl-texts; opened = node-missing; emptied = node-missing }))
    (λ tag. blames-seq (blames-cond tag.empty (blames-ret no_cdl) (held-well cdl_holder (λ st. fair-zero) cdl-fault cdl-body no_cdl))
    (λ st. blames-ret (cdl_node tag.attributes st)))

-- ---- a node by its name

pub name-right : (n : NodeName) → Right (node_fault n)
name-right is_matrix = fair-zero
name-right is_lut1d = fair-zero
name-right is_range = fair-zero
name-right is_cdl = fair-zero
name-right is_lut3d = fair-zero
name-right not_carried = seven
name-right no_node = five

pub node-well : (n : NodeName) → Well (node_body n)
node-well is_matrix = matrix-well
node-well is_lut1d = lut1d-well
node-well is_range = range-well
node-well is_cdl = cdl-well
node-well is_lut3d = lut3d-well
node-well not_carried = blames-bad 7 (other 7 refl)
node-well no_node = blames-bad 5 (other 5 refl)
