-- Matrix, LUT1D and LUT3D by their name in the code, and what the answers of the code mean.
use Rattle.std.specs.Prelude.{◌≡◌, List, [], ℕ, length}
use Rattle.std.proofs.Math.Option.{Option, none, some}
use Rattle.decimal.specs.declared.Decimal.{Decimal}
use Rattle.process_list.specs.declared.Kind.{Kind}
use Rattle.process_list.specs.List.{Element, numbers_of}
use Rattle.grammar.specs.Grammar.{G}
use Rattle.xml.specs.Bytes.{bytes}
use Rattle.xml.specs.Elements.{Holder}
use Rattle.room.specs.Room.{Room}
use Rattle.values.specs.Code.{Laid}
use Rattle.xml.specs.Xml.{Attribute, text_of}
use Rattle.clf.specs.Nodes.{matrix_shape, lut_shape, cube_shape, lut_names, lut_texts, cube_texts, interpolation_of, ArrayState, array_holder, Table, matrix, lut1d, lut3d}
use Rattle.xml.specs.Code.{Scan}
use Rattle.std.specs.Prelude.{Result, Ok, Err}
use Rattle.std.specs.Prelude as Std
use Rattle.xml.specs.declared.Stop.{Stop}
use Rattle.array_node.specs.declared.TableRead.{TableRead}
use Rattle.array_node.specs.declared.ChildRead.{ChildRead}
use Rattle.array_node.specs.declared.TableNode.{TableNode}
use Rattle.array_node.specs.declared.TableNode.TheVariants as Named
use Rattle.array_node.specs.declared.TableKind.{TableKind}
use Rattle.array_node.specs.declared.TableKind.TheVariants as Tables

-- the grammar and the rules of each
abbrev pub node_for : TableNode → G Element
node_for Named.Matrix = matrix
node_for Named.Lut1d = lut1d
node_for Named.Lut3d = lut3d

abbrev pub names_of : TableNode → List ℕ → ℕ
names_of Named.Matrix = λ w. 0
names_of Named.Lut1d = lut_names
names_of Named.Lut3d = λ w. 0

abbrev pub texts_of : TableNode → List ℕ → List ℕ → ℕ
texts_of Named.Matrix = λ w t. 0
texts_of Named.Lut1d = lut_texts
texts_of Named.Lut3d = cube_texts

-- what its Array may be, by the attributes of its tag
abbrev pub kind_by : TableNode → List Attribute → TableKind
kind_by Named.Matrix l = Tables.Matrix
kind_by Named.Lut1d l = Tables.Lut1d
kind_by Named.Lut3d l = Tables.Lut3d (interpolation_of (text_of (bytes "interpolation") l))

-- the shapes and the name of each
abbrev pub shape_of : TableKind → List ℕ → Option Kind
shape_of Tables.Matrix = matrix_shape
shape_of Tables.Lut1d = lut_shape
shape_of (Tables.Lut3d interpolation) = cube_shape interpolation

abbrev pub name_of : TableKind → List ℕ
name_of Tables.Matrix = bytes "Matrix"
name_of Tables.Lut1d = bytes "LUT1D"
name_of (Tables.Lut3d interpolation) = bytes "LUT3D"

abbrev pub holder_of : TableKind → Holder ArrayState
holder_of table = array_holder (name_of table) (shape_of table)

-- an optional kind of the code, as the definitions have it
abbrev pub kind_read : Std.Option Kind → Option Kind
kind_read (Std.Some k) = some k
kind_read Std.None = none

-- the places behind what was read
abbrev pub table_end : Result TableRead Stop → Scan
table_end (Ok t) = Ok t.end
table_end (Err x) = Err x

abbrev pub child_end : Result ChildRead Stop → Scan
child_end (Ok c) = Ok c.end
child_end (Err x) = Err x

-- the table of an Array, if it was there
abbrev pub table_of : Std.Option Kind → List Decimal → Option Table
table_of (Std.Some kind) xs = some (kind, xs)
table_of Std.None xs = none

-- as many numbers as its kind asks for; none where no Array was there
abbrev pub Filled : Std.Option Kind → List Decimal → Type 0
Filled (Std.Some kind) xs = length xs ≡ numbers_of kind
Filled Std.None xs = xs ≡ []

-- an Array of this kind, whose numbers stand in the room
pub record TableIn (base : ℕ) (m₀ m₁ : Room) (kind : Kind) (t : Table) : Type 0 where
  pub kinds : t.0 ≡ kind
  pub all : length t.1 ≡ numbers_of kind
  pub room : Laid base t.1 m₀ m₁

-- the Array that the code has found, if any, stands for the state st, and the numbers read so far are laid in the room
pub record ArrayStands (base : ℕ) (m₀ m₁ : Room) (found : Std.Option Kind) (st : ArrayState) : Type 0 where
  pub xs : List Decimal
  pub table : st.table ≡ table_of found xs
  pub all : Filled found xs
  pub room : Laid base xs m₀ m₁
