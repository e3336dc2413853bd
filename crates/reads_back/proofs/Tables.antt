-- Matrix, LUT1D and LUT3D in front of what follows them. Assumes nothing.
use mathlib.Core.Path.{◌≡◌, refl, sym, ap, ◌∙◌}
use mathlib.Core.Bool.{Bool, true, false, cond}
use mathlib.Core.List.{List, [], ◌∷◌, ◌++◌}
use mathlib.Core.Option.{Option, some}
use Prim.Native.Nat.{ℕ, ◌*◌}
use lib.ListN.{length}
use Rattle.decimal.specs.declared.Decimal.{Decimal}
use Rattle.process_list.specs.declared.Depth.{Depth}
use Rattle.process_list.specs.declared.Interpolation.{Interpolation}
use Rattle.process_list.specs.declared.Interpolation.TheVariants.{Trilinear, Tetrahedral}
use Rattle.process_list.specs.declared.Kind.{Kind}
use Rattle.process_list.specs.declared.Kind.TheVariants.{Matrix, Lut1d, Lut3d}
use Rattle.process_list.specs.List.{Element, cube_entries, cube_numbers, numbers_of}
use Rattle.grammar.specs.Parse.{Out, done, then_out, ret_p}
use Rattle.xml.specs.Bytes.{bytes, same, is_letter, is_digit, is_name_byte}
use Rattle.xml.specs.Xml.{Attribute, text_of, Tag, start_tag}
use Rattle.xml.specs.Elements.{held}
use Rattle.ids.specs.Ids.{id_allowed}
use Rattle.clf.specs.Numbers.{any_number}
use Rattle.clf.specs.Nodes.{node_rules, matrix_shape, lut_shape, cube_shape, array, Table, ArrayState, no_array, array_holder, table_node, matrix, lut_names, lut_texts, lut1d}
use Rattle.clf.specs.Nodes.{cube_texts, interpolation_of, cube_shape_by, lut3d}
use Rattle.claims.proofs.Numbers.{Each, Kept}
use Rattle.valid.specs.Valid.{every, table_right, cube_right}
use Rattle.written_form.specs.Written.{dims, interpolation_text}
use Rattle.written_form.proofs.Tail.{rows_text, lines_text, array_text, table_text, cube_text, depths_text, node_id_text, dims-text}
use Rattle.reads_back.proofs.Texts.{is_name}
use Rattle.reads_back.proofs.Tags.{quoted}
use Rattle.reads_back.proofs.Held.{held-from, held-line, held-child, held-end}
use Rattle.reads_back.proofs.Shapes.{dims-quoted, matrix-shape, lut-shape, cube-shape}
use Rattle.reads_back.proofs.Values.{array-name, array-reads}
use Rattle.reads_back.proofs.Depths.{with_depths, id_of, id-said, id-said-first, last_text, node-is, NodeRules, LastName, last-said, plain-tag, last-tag}

pub space-name : is_name_byte 32 ≡ false
unfolding is_name_byte is_letter is_digit
space-name = refl

-- ---- one Array, and the end tag

module _ (w : List ℕ) (shape : List ℕ → Option Kind) (named : is_name w ≡ true) where
  abbrev tabled : Table → ArrayState
  tabled t = record { table = some t }

  array-fine : (array_holder w shape).fault no_array (bytes "Array") ≡ 0
  unfolding same
  array-fine = refl

  array-body : (s : List ℕ) (x : Table) (r : List ℕ) → (array shape).run s ≡ done x r → ((array_holder w shape).body no_array (bytes "Array")).run s ≡ done (tabled x) r
  unfolding same
  array-body s x r e = ap (λ (o : Out Table). then_out o (λ t. ret_p (tabled t))) e

  content-reads : (ns : List ℕ) (rows columns : ℕ) (k : Kind) (ds : List Decimal) (t : List ℕ) → shape (dims ns) ≡ some k → Each (Kept any_number) ds → length ds ≡ rows * columns
      → numbers_of k ≡ length ds → (held (array_holder w shape) no_array).run (10 ∷ array_text ns rows columns ds (60 ∷ 47 ∷ w ++ 62 ∷ t)) ≡ done (tabled (k, ds)) t
  unfolding array_text lines_text
  content-reads ns rows columns k ds t e each c n =
      let h = array_holder w shape in
      let z : List ℕ = 60 ∷ 47 ∷ w ++ 62 ∷ t in
      let l : List ℕ = bytes "\">\n" ++ rows_text rows columns ds (bytes "</Array>" ++ (10 ∷ z)) in
      let a : List ℕ = bytes "dim=\"" ++ (dims ns ++ l) in
      ap (λ (x : List ℕ). (held h no_array).run (10 ∷ (bytes "<Array dim=\"" ++ x))) (sym (dims-text ns l))
      ∙ held-from h no_array (10 ∷ (bytes "<Array" ++ 32 ∷ a))
      ∙ held-line h no_array (bytes "<Array" ++ 32 ∷ a)
      ∙ held-child h no_array (bytes "Array") 32 a (tabled (k, ds)) (10 ∷ z) array-name space-name array-fine
      (array-body (32 ∷ a) (k, ds) (10 ∷ z) (array-reads shape (dims ns) rows columns k ds (10 ∷ z) (dims-quoted ns) e each c n))
      ∙ held-line h (tabled (k, ds)) z
      ∙ held-end h (tabled (k, ds)) t named refl

-- ---- a node that holds one Array, whose shape may depend on the node's attributes: its start tag has been read, and its Array follows

module _ (w : List ℕ) (shape : List Attribute → List ℕ → Option Kind) (named : is_name w ≡ true) (i o : Depth) (id : List ℕ) (more : List Attribute) where
  abbrev tag_read : List ℕ → Out Tag
  tag_read r = done (record { attributes = with_depths i o more; empty = false }) r

  abbrev behind_tag : Out Tag → Out Element
  behind_tag x = then_out x (λ tag u. then_out ((held (array_holder w (shape tag.attributes)) no_array).run u) (λ st. ret_p (table_node tag.attributes st)))

  array-node : (x : Out Tag) (ns : List ℕ) (rows columns : ℕ) (k : Kind) (ds : List Decimal) (t : List ℕ) → x ≡ tag_read (10 ∷ array_text ns rows columns ds (60 ∷ 47 ∷ w ++ 62 ∷ t))
      → text_of (bytes "id") more ≡ id → shape (with_depths i o more) (dims ns) ≡ some k → Each (Kept any_number) ds → length ds ≡ rows * columns → numbers_of k ≡ length ds
      → behind_tag x ≡ done (record { kind = k; input = i; output = o; id = id; numbers = ds }) t
  array-node x ns rows columns k ds t q said e each c n =
      ap behind_tag q
      ∙ ap (λ (y : Out ArrayState). then_out y (λ st. ret_p (table_node (with_depths i o more) st))) (content-reads w (shape (with_depths i o more)) named ns rows columns k ds t e each c n)
      ∙ ap (λ (y : Element). done y t) (node-is i o id more k ds said)

-- ---- Matrix

pub matrix-name : is_name (bytes "Matrix") ≡ true
unfolding is_name is_name_byte is_letter is_digit every
matrix-name = refl

matrix-rules : NodeRules (node_rules (λ w. 0) (λ w t. 0))
matrix-rules = record { rest = λ w t. 0; texts = refl; opened = refl; in-free = refl; out-free = refl; id-free = refl }

module _ (i o : Depth) (id : List ℕ) (h : id_allowed id ≡ true) where
  pub matrix-reads : (wide : Bool) (ds : List Decimal) (t : List ℕ) → Each (Kept any_number) ds → length ds ≡ 3 * cond wide 4 3 → numbers_of (Matrix wide) ≡ length ds
      → matrix.run (depths_text i o (node_id_text id (bytes ">\n" ++ table_text 3 (cond wide 4 3) ds (bytes "</Matrix>" ++ t))))
      ≡ done (record { kind = Matrix wide; input = i; output = o; id = id; numbers = ds }) t
  unfolding matrix
  matrix-reads wide ds t each c n =
      array-node (bytes "Matrix") (λ l. matrix_shape) matrix-name i o id (id_of id) _ (3 ∷ cond wide 4 3 ∷ []) 3 (cond wide 4 3) (Matrix wide) ds t
      (plain-tag (node_rules (λ w. 0) (λ w t. 0)) matrix-rules i o id h (10 ∷ table_text 3 (cond wide 4 3) ds (bytes "</Matrix>" ++ t))) (id-said id) (matrix-shape wide) each c n

-- ---- LUT1D

pub lut-name : is_name (bytes "LUT1D") ≡ true
unfolding is_name is_name_byte is_letter is_digit every
lut-name = refl

lut-rules : NodeRules (node_rules lut_names lut_texts)
unfolding same
lut-rules = record { rest = lut_texts; texts = refl; opened = refl; in-free = refl; out-free = refl; id-free = refl }

module _ (i o : Depth) (id : List ℕ) (h : id_allowed id ≡ true) where
  pub lut-reads : (entries columns : ℕ) (ds : List Decimal) (t : List ℕ) → table_right entries columns ≡ true → Each (Kept any_number) ds → length ds ≡ entries * columns
      → numbers_of (Lut1d entries columns) ≡ length ds
      → lut1d.run (depths_text i o (node_id_text id (bytes ">\n" ++ table_text entries columns ds (bytes "</LUT1D>" ++ t))))
      ≡ done (record { kind = Lut1d entries columns; input = i; output = o; id = id; numbers = ds }) t
  unfolding lut1d
  lut-reads entries columns ds t right each c n =
      array-node (bytes "LUT1D") (λ l. lut_shape) lut-name i o id (id_of id) _ (entries ∷ columns ∷ []) entries columns (Lut1d entries columns) ds t
      (plain-tag (node_rules lut_names lut_texts) lut-rules i o id h (10 ∷ table_text entries columns ds (bytes "</LUT1D>" ++ t))) (id-said id) (lut-shape entries columns right) each c n

-- ---- LUT3D

pub cube-name : is_name (bytes "LUT3D") ≡ true
unfolding is_name is_name_byte is_letter is_digit every
cube-name = refl

abbrev cube-rules : NodeRules (node_rules (λ w. 0) cube_texts)
cube-rules = record { rest = cube_texts; texts = refl; opened = refl; in-free = refl; out-free = refl; id-free = refl }

method-last : LastName (node_rules (λ w. 0) cube_texts) (bytes "interpolation")
unfolding is_name is_name_byte is_letter is_digit every same
method-last = record { name = refl; not_in = refl; not-out = refl; not-id = refl; id-not = refl; free = refl }

-- the text of a method
abbrev method_text : Interpolation → List ℕ
method_text Trilinear = bytes "trilinear"
method_text Tetrahedral = bytes "tetrahedral"

method-text : (m : Interpolation) (t : List ℕ) → interpolation_text m ++ t ≡ last_text (bytes "interpolation") (method_text m) t
method-text Trilinear t = refl
method-text Tetrahedral t = refl

method-quoted : (m : Interpolation) → quoted (method_text m) ≡ true
unfolding every
method-quoted Trilinear = refl
method-quoted Tetrahedral = refl

method-right : (m : Interpolation) → cube_texts (bytes "interpolation") (method_text m) ≡ 0
unfolding same
method-right Trilinear = refl
method-right Tetrahedral = refl

method-of : (m : Interpolation) → interpolation_of (method_text m) ≡ m
unfolding same
method-of Trilinear = refl
method-of Tetrahedral = refl

module _ (i o : Depth) (id : List ℕ) (h : id_allowed id ≡ true) where
  abbrev method : Interpolation → List Attribute
  method m = id_of id ++ record { name = bytes "interpolation"; text = method_text m } ∷ []

  method-said : (m : Interpolation) → interpolation_of (text_of (bytes "interpolation") (with_depths i o (method m))) ≡ m
  method-said m = ap interpolation_of (last-said (node_rules (λ w. 0) cube_texts) cube-rules (bytes "interpolation") method-last i o id (method_text m)) ∙ method-of m

  pub cube-reads : (n : ℕ) (m : Interpolation) (ds : List Decimal) (t : List ℕ) → cube_right n ≡ true → Each (Kept any_number) ds → length ds ≡ cube_numbers n
      → numbers_of (Lut3d n m) ≡ length ds
      → lut3d.run (depths_text i o (node_id_text id (interpolation_text m ++ (bytes ">\n" ++ cube_text n ds (bytes "</LUT3D>" ++ t)))))
      ≡ done (record { kind = Lut3d n m; input = i; output = o; id = id; numbers = ds }) t
  unfolding lut3d
  cube-reads n m ds t right each c k =
      let ns : List ℕ = n ∷ n ∷ n ∷ 3 ∷ [] in
      let r : List ℕ = 10 ∷ cube_text n ds (bytes "</LUT3D>" ++ t) in
      array-node (bytes "LUT3D") cube_shape_by cube-name i o id (method m) _ ns (cube_entries n) 3 (Lut3d n m) ds t
      (ap (λ (s : List ℕ). (start_tag (node_rules (λ w. 0) cube_texts)).run (depths_text i o (node_id_text id s))) (method-text m (62 ∷ r))
      ∙ last-tag (node_rules (λ w. 0) cube_texts) cube-rules i o id h (bytes "interpolation") method-last (method_text m) r (method-quoted m) (method-right m))
      (id-said-first id (bytes "interpolation") (method_text m) method-last.id-not)
      (ap (λ (x : Interpolation). cube_shape x (dims ns)) (method-said m) ∙ cube-shape m n right) each c k
