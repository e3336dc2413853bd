-- Value elements and Arrays in front of what follows them. Assumes nothing.
use mathlib.Core.Path.{◌≡◌, refl, ap, ◌∙◌}
use mathlib.Core.Bool.{true, false}
use mathlib.Core.List.{List, [], ◌∷◌, ◌++◌}
use mathlib.Core.Option.{Option, some}
use Prim.Native.Nat.{ℕ, ◌*◌}
use native.Mathlib.Omega.{arith}
use lib.ListN.{length}
use Rattle.decimal.specs.declared.Decimal.{Decimal}
use Rattle.process_list.specs.declared.Kind.{Kind}
use Rattle.process_list.specs.List.{numbers_of}
use Rattle.grammar.specs.Parse.{Out, done, then_out, ret_p}
use Rattle.xml.specs.Bytes.{bytes, same, is_space, is_letter, is_digit, is_name_byte}
use Rattle.xml.specs.Xml.{Attribute, is_named, text_of, name_fault, Tag, start_tag}
use Rattle.xml.specs.Elements.{Holder}
use Rattle.clf.specs.Numbers.{any_number, numbers, value_rules, value_element}
use Rattle.clf.specs.Nodes.{array_rules, array_of, array}
use Rattle.claims.proofs.Numbers.{Each, Kept}
use Rattle.valid.specs.Valid.{every}
use Rattle.written_form.proofs.Tail.{row_text, rows_text, value_text}
use Rattle.reads_back.proofs.Texts.{is_name}
use Rattle.reads_back.proofs.Tags.{quoted, greater-name, tag-from, tag-ends, tag-more}
use Rattle.reads_back.proofs.Held.{held_from, held-line, held-child}
use Rattle.reads_back.proofs.Numbers.{Ends, numbers-from, past-line, numbers-end, row_reads, rows-read}

less-ends : (s : List ℕ) → Ends (60 ∷ s)
unfolding is_space
less-ends s = record { first = 60; rest = s; is = refl; ends = refl }

-- a value element behind its name: `>`, its numbers in one line, its end tag
pub value-reads : (w : List ℕ) (n : ℕ) (rule : Decimal → ℕ) (ds : List Decimal) (t : List ℕ) → is_name w ≡ true → Each (Kept rule) ds → length ds ≡ n
    → (value_element w n rule).run (62 ∷ row_text ds (60 ∷ 47 ∷ w ++ 62 ∷ t)) ≡ done ds t
unfolding value_element
value-reads w n rule ds t h k c =
    let r : List ℕ = row_text ds (60 ∷ 47 ∷ w ++ 62 ∷ t) in
    ap (λ (o : Out Tag). then_out o (λ u. (numbers w n rule).run)) (tag-from value_rules (62 ∷ r) ∙ tag-ends value_rules [] r refl)
    ∙ numbers-from w n rule r
    ∙ row_reads w n rule [] ds (60 ∷ 47 ∷ w ++ 62 ∷ t) k (omega arith) (less-ends (47 ∷ w ++ 62 ∷ t))
    ∙ numbers-end w n rule ds t h (omega arith)

-- a value element among an element's content, and the LF behind its end tag
pub value-child : {S : Type 0} (h : Holder S) (st st' : S) (w : List ℕ) (n : ℕ) (rule : Decimal → ℕ) (ds : List Decimal) (t : List ℕ) → is_name w ≡ true → Each (Kept rule) ds → length ds ≡ n
    → h.fault st w ≡ 0 → ((s r : List ℕ) → (value_element w n rule).run s ≡ done ds r → (h.body st w).run s ≡ done st' r)
    → held_from h st (value_text w ds t) ≡ held_from h st' t
unfolding value_text
value-child h st st' w n rule ds t named k c f b =
    let s : List ℕ = row_text ds (60 ∷ 47 ∷ w ++ 62 ∷ 10 ∷ t) in
    held-child h st w 62 s st' (10 ∷ t) named greater-name f (b (62 ∷ s) (10 ∷ t) (value-reads w n rule ds (10 ∷ t) named k c))
    ∙ held-line h st' t

-- ---- an Array of this shape

dim-name : is_name (bytes "dim") ≡ true
unfolding is_name is_name_byte is_letter is_digit every
dim-name = refl

pub array-name : is_name (bytes "Array") ≡ true
unfolding is_name is_name_byte is_letter is_digit every
array-name = refl

module _ (shape : List ℕ → Option Kind) where
  abbrev dim_of : List ℕ → Attribute
  dim_of v = record { name = bytes "dim"; text = v }

  dim-fine : (v : List ℕ) (k : Kind) → shape v ≡ some k → (array_rules shape).texts (bytes "dim") v ≡ 0
  unfolding same
  dim-fine v k e = rw e

  dim-there : (v : List ℕ) → (array_rules shape).opened (dim_of v ∷ []) ≡ 0
  unfolding is_named same
  dim-there v = refl

  dim-new : name_fault (array_rules shape) [] (bytes "dim") ≡ 0
  unfolding is_named
  dim-new = refl

  dim-text : (v : List ℕ) → text_of (bytes "dim") (dim_of v ∷ []) ≡ v
  unfolding text_of same
  dim-text v = refl

  array-tag : (v : List ℕ) (k : Kind) (t : List ℕ) → quoted v ≡ true → shape v ≡ some k
      → (start_tag (array_rules shape)).run (bytes " dim=\"" ++ (v ++ (bytes "\">" ++ t))) ≡ done (record { attributes = dim_of v ∷ []; empty = false }) t
  array-tag v k t q e =
      tag-from (array_rules shape) (bytes " dim=\"" ++ (v ++ (bytes "\">" ++ t)))
      ∙ tag-more (array_rules shape) [] (bytes "dim") v (62 ∷ t) dim-name q dim-new (dim-fine v k e)
      ∙ tag-ends (array_rules shape) (dim_of v ∷ []) t (dim-there v)

  -- behind its name: the text of `dim`, the rows a line each, its end tag
  pub array-reads : (v : List ℕ) (rows columns : ℕ) (k : Kind) (ds : List Decimal) (t : List ℕ) → quoted v ≡ true → shape v ≡ some k → Each (Kept any_number) ds
      → length ds ≡ rows * columns → numbers_of k ≡ length ds
      → (array shape).run (bytes " dim=\"" ++ (v ++ (bytes "\">\n" ++ rows_text rows columns ds (bytes "</Array>" ++ t)))) ≡ done (k, ds) t
  unfolding array
  array-reads v rows columns k ds t q e each c n =
      let r : List ℕ = rows_text rows columns ds (bytes "</Array>" ++ t) in
      ap (λ (o : Out Tag). then_out o (λ tag. (array_of (shape (text_of (bytes "dim") tag.attributes))).run)) (array-tag v k (10 ∷ r) q e)
      ∙ ap (λ (u : List ℕ). (array_of (shape u)).run (10 ∷ r)) (dim-text v)
      ∙ ap (λ (o : Option Kind). (array_of o).run (10 ∷ r)) e
      ∙ ap (λ (o : Out (List Decimal)). then_out o (λ l. ret_p (k, l)))
      (numbers-from (bytes "Array") (numbers_of k) any_number (10 ∷ r)
      ∙ past-line (bytes "Array") (numbers_of k) any_number [] r
      ∙ rows-read (bytes "Array") (numbers_of k) any_number rows columns [] ds (bytes "</Array>" ++ t) each c (omega arith)
      ∙ numbers-end (bytes "Array") (numbers_of k) any_number ds t array-name (omega arith))
