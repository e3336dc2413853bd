-- A valid list's text is shorter than 16 MiB, so that it can be read back. Assumes nothing.
use Rattle.process_list.specs.declared.RangeStyle.TheVariants.{Clamp, NoClamp}
use Rattle.process_list.specs.declared.RangeEnd.{RangeEnd}
use Rattle.process_list.specs.declared.RangeEnd.TheVariants.{Minimum, Maximum}
use Rattle.process_list.specs.declared.CdlStyle.TheVariants.{Fwd, FwdNoClamp}
use Rattle.process_list.specs.declared.Interpolation.TheVariants.{Trilinear, Tetrahedral}
use mathlib.Core.Path.{◌≡◌, refl}
use mathlib.Core.Bool.{Bool, true, false, ◌&&◌, ◌||◌, false≢true}
use mathlib.Core.List.{List, [], ◌∷◌, ◌++◌}
use Prim.Native.Nat.{ℕ, zero, suc, ◌+◌, ◌*◌, ◌≤◌, ◌^◌}
use native.Mathlib.Omega.{arith}
use borrow.Author.Tests.{leb-true, le-leb, eqb-true}
use lib.Dec.{eqb, leb, lit≤}
use lib.ListN.{length, take, drop, length-append, length-take, length-drop}
use Rattle.decimal.specs.declared.Decimal.{Decimal}
use Rattle.decimal_write.specs.Written.{digits, written_of}
use Rattle.decimal_write.specs.Laws.{digits-short, written-short}
use Rattle.process_list.specs.declared.Depth.{Depth}
use Rattle.process_list.specs.declared.Depth.TheVariants.{I8, I10, I12, I16, F16, F32}
use Rattle.process_list.specs.declared.Kind.{Kind}
use Rattle.process_list.specs.declared.Kind.TheVariants.{Matrix, Lut1d, Range, Cdl, Lut3d, OneEnd}
use Rattle.process_list.specs.declared.ProcessList.{ProcessList}
use Rattle.process_list.specs.List.{Element, cube_entries, numbers_of, all_numbers, total, capped, nodes_of}
use Rattle.process_list.proofs.Laws.{capped-exact, cube-few}
use Rattle.room.specs.Room.{Room, room_length}
use Rattle.valid.specs.Valid.{every, is_valid, sound, shape_right, table_right, cube_right, depths_right, carried, rules_hold, elements_of}
use Rattle.valid.proofs.Laws.{elements-length}
use Rattle.valid.proofs.Elements.{both_true, Right, right-few, valid-parts}
use Rattle.valid.proofs.Readings.{used-is, sound-id}
use Rattle.ids.specs.Ids.{id_right, id_allowed}
use Rattle.ids.proofs.Laws.{right-length, allowed-few}
use Rattle.xml.specs.Bytes.{bytes}
use Rattle.written_form.specs.Written.{joined, name_text, depth_text, style_text, list_lines, most_id_bytes}
use Rattle.written_form.proofs.Tail.{spaced_text, row_text, rows_text, dims_text, lines_text, array_text, value_text, range_text, pair_text, one_end_text, sop_text, sat_text, content_text}
use Rattle.written_form.proofs.Tail.{node_id_text, start_text, end_text, node_text, nodes_text, head_text, list_text, list-text}

-- ---- numbers: at most 20 bytes each, and one byte to part them
spaced-short : (ds : List Decimal) (t : List ℕ) → length (spaced_text ds t) ≤ 21 * length ds + length t
unfolding spaced_text
spaced-short [] t = omega arith
spaced-short (d ∷ ds) t = omega (arith, length-append (written_of d) (spaced_text ds t), written-short d, spaced-short ds t)

row-short : (ds : List Decimal) (t : List ℕ) → length (row_text ds t) ≤ 21 * length ds + length t
unfolding row_text
row-short [] t = omega arith
row-short (d ∷ ds) t = omega (arith, length-append (written_of d) (spaced_text ds t), written-short d, spaced-short ds t)

rows_short : (n c : ℕ) (ds : List Decimal) (t : List ℕ) → length (rows_text n c ds t) ≤ 21 * length ds + n + length t
unfolding rows_text
rows_short zero c ds t = omega arith
rows_short (suc n) c ds t =
    let r = row-short (take c ds) (bytes "\n" ++ rows_text n c (drop c ds) t) in
    let i = rows_short n c (drop c ds) t in
    omega (arith, length-take c ds, length-drop c ds)

-- dims: at most 5 digits each, and one byte to part them
abbrev small : ℕ → Bool
small n = leb n 65536

digits-few : (n : ℕ) → small n ≡ true → length (digits n) ≤ 5
digits-few n h = digits-short n 4 (omega (arith, leb-true n 65536 h, lit≤ {m = 65537} {n = 10 ^ 5} tt))

dims-short : (ns t : List ℕ) → every small ns ≡ true → length (dims_text ns t) ≤ 6 * length ns + length t
unfolding dims_text every
dims-short [] t h = omega arith
dims-short (n ∷ []) t h = omega (arith, length-append (digits n) t, digits-few n (both_true (small n) true h).0)
dims-short (n ∷ (k ∷ ns)) t h =
    let p = both_true (small n) (every small (k ∷ ns)) h in
    omega (arith, length-append (digits n) (bytes " " ++ dims_text (k ∷ ns) t), digits-few n p.0, dims-short (k ∷ ns) t p.1)

array-short : (ns : List ℕ) (n c : ℕ) (ds : List Decimal) (t : List ℕ) → every small ns ≡ true → length (array_text ns n c ds t) ≤ 21 * length ds + 6 * length ns + n + 24 + length t
unfolding array_text lines_text
array-short ns n c ds t h =
    let z : List ℕ = bytes "</Array>\n" ++ t in
    omega (arith, rows_short n c ds z, dims-short ns (bytes "\">\n" ++ rows_text n c ds z) h)

value-short : (name : List ℕ) (ds : List Decimal) (t : List ℕ) → length (value_text name ds t) ≤ 21 * length ds + 2 * length name + 6 + length t
unfolding value_text
value-short name ds t =
    let z : List ℕ = name ++ (bytes ">\n" ++ t) in
    let y : List ℕ = bytes ">" ++ row_text ds (bytes "</" ++ z) in
    let i = row-short ds (bytes "</" ++ z) in
    omega (arith, length-append name (bytes ">\n" ++ t), length-append name y)

-- ---- nodes
range-short : (ds : List Decimal) (t : List ℕ) → length (range_text ds t) ≤ 200 + length t
unfolding range_text
range-short ds t =
    let d = value_text (bytes "maxOutValue") (take 1 (drop 3 ds)) t in
    let c = value_text (bytes "minOutValue") (take 1 (drop 2 ds)) d in
    let b = value_text (bytes "maxInValue") (take 1 (drop 1 ds)) c in
    let id = value-short (bytes "maxOutValue") (take 1 (drop 3 ds)) t in
    let ic = value-short (bytes "minOutValue") (take 1 (drop 2 ds)) d in
    let ib = value-short (bytes "maxInValue") (take 1 (drop 1 ds)) c in
    let ia = value-short (bytes "minInValue") (take 1 ds) b in
    omega (arith, length-take 1 (drop 3 ds), length-take 1 (drop 2 ds), length-take 1 (drop 1 ds), length-take 1 ds)

pair-short : (in_name out_name : List ℕ) (ds : List Decimal) (t : List ℕ) → length (pair_text in_name out_name ds t) ≤ 2 * length in_name + 2 * length out_name + 54 + length t
unfolding pair_text
pair-short in_name out_name ds t =
    let b = value_text out_name (take 1 (drop 1 ds)) t in
    let ib = value-short out_name (take 1 (drop 1 ds)) t in
    let ia = value-short in_name (take 1 ds) b in
    omega (arith, length-take 1 (drop 1 ds), length-take 1 ds)

one-end-short : (end : RangeEnd) (ds : List Decimal) (t : List ℕ) → length (one_end_text end ds t) ≤ 100 + length t
unfolding one_end_text
one-end-short Minimum ds t = omega (arith, pair-short (bytes "minInValue") (bytes "minOutValue") ds t)
one-end-short Maximum ds t = omega (arith, pair-short (bytes "maxInValue") (bytes "maxOutValue") ds t)

sop-short : (ds : List Decimal) (t : List ℕ) → length (sop_text ds t) ≤ 300 + length t
unfolding sop_text
sop-short ds t =
    let z : List ℕ = bytes "</SOPNode>\n" ++ t in
    let c = value_text (bytes "Power") (take 3 (drop 6 ds)) z in
    let b = value_text (bytes "Offset") (take 3 (drop 3 ds)) c in
    let ic = value-short (bytes "Power") (take 3 (drop 6 ds)) z in
    let ib = value-short (bytes "Offset") (take 3 (drop 3 ds)) c in
    let ia = value-short (bytes "Slope") (take 3 ds) b in
    omega (arith, length-take 3 (drop 6 ds), length-take 3 (drop 3 ds), length-take 3 ds)

sat-short : (ds : List Decimal) (t : List ℕ) → length (sat_text ds t) ≤ 100 + length t
unfolding sat_text
sat-short ds t =
    let i = value-short (bytes "Saturation") (take 1 (drop 9 ds)) (bytes "</SatNode>\n" ++ t) in
    omega (arith, length-take 1 (drop 9 ds))

table-most : (n c : ℕ) → table_right n c ≡ true → (n ≤ 65536) × (c ≤ 4)
unfolding table_right
table-most n c h = go (eqb c 1) (eqb c 3) (eqb-true c 1) (eqb-true c 3) (both_true (leb 2 n && leb n 65536) _ h)
  where
    go : (a b : Bool) → (a ≡ true → c ≡ 1) → (b ≡ true → c ≡ 3) → ((leb 2 n && leb n 65536) ≡ true) × ((a || b) ≡ true) → (n ≤ 65536) × (c ≤ 4)
    go true b p q e = (leb-true n 65536 (both_true (leb 2 n) (leb n 65536) e.0).1, omega (arith, p refl))
    go false true p q e = (leb-true n 65536 (both_true (leb 2 n) (leb n 65536) e.0).1, omega (arith, q refl))
    go false false p q e = absurd (false≢true e.1)

cube-most : (n : ℕ) → cube_right n ≡ true → (n ≤ 33) × (cube_entries n ≤ 35937)
unfolding cube_right
cube-most n h =
    let p = both_true (leb 2 n) (leb n 33) h in
    let k : n ≤ 33 = leb-true n 33 p.1 in
    (k, omega (arith, (cube-few n (omega (arith, leb-true 2 n p.0)) k).1))

-- dims within 65,536: two, and three times one
table-small : (n c : ℕ) → n ≤ 65536 → c ≤ 65536 → every small (n ∷ c ∷ []) ≡ true
unfolding every
table-small n c h k = simp (le-leb n 65536 h, le-leb c 65536 k)

cube-small : (n : ℕ) → n ≤ 65536 → every small (n ∷ n ∷ n ∷ 3 ∷ []) ≡ true
unfolding every
cube-small n h = simp (le-leb n 65536 h)

content-short : (k : Kind) (ds : List Decimal) (t : List ℕ) → shape_right k ≡ true → length (content_text k ds t) ≤ 21 * length ds + 65600 + length t
unfolding content_text shape_right
content-short (Matrix true) ds t h = omega (arith, array-short (3 ∷ 4 ∷ []) 3 4 ds t (table-small 3 4 (omega arith) (omega arith)))
content-short (Matrix false) ds t h = omega (arith, array-short (3 ∷ 3 ∷ []) 3 3 ds t (table-small 3 3 (omega arith) (omega arith)))
content-short (Lut1d n c) ds t h = let m = table-most n c h in omega (arith, array-short (n ∷ c ∷ []) n c ds t (table-small n c m.0 (omega arith)))
content-short (Range style) ds t h = omega (arith, range-short ds t)
content-short (Cdl style) ds t h = omega (arith, sop-short ds (sat_text ds t), sat-short ds t)
content-short (Lut3d n i) ds t h = let m = cube-most n h in omega (arith, array-short (n ∷ n ∷ n ∷ 3 ∷ []) (cube_entries n) 3 ds t (cube-small n (omega arith)))
content-short (OneEnd end) ds t h = omega (arith, one-end-short end ds t)

name-short : (k : Kind) → length (name_text k) ≤ 10
name-short (Matrix wide) = omega arith
name-short (Lut1d n c) = omega arith
name-short (Range style) = omega arith
name-short (Cdl style) = omega arith
name-short (Lut3d n i) = omega arith
name-short (OneEnd end) = omega arith

depth-short : (d : Depth) → length (depth_text d) ≤ 3
depth-short I8 = omega arith
depth-short I10 = omega arith
depth-short I12 = omega arith
depth-short I16 = omega arith
depth-short F16 = omega arith
depth-short F32 = omega arith

style-short : (k : Kind) → length (style_text k) ≤ 30
style-short (Matrix wide) = omega arith
style-short (Lut1d n c) = omega arith
style-short (Range Clamp) = omega arith
style-short (Range NoClamp) = omega arith
style-short (Cdl Fwd) = omega arith
style-short (Cdl FwdNoClamp) = omega arith
style-short (Lut3d n Trilinear) = omega arith
style-short (Lut3d n Tetrahedral) = omega arith
style-short (OneEnd end) = omega arith

node-id-short : (id t : List ℕ) → length (node_id_text id t) ≤ 6 + length id + length t
unfolding node_id_text
node-id-short [] t = omega arith
node-id-short (b ∷ s) t = omega (arith, length-append (b ∷ s) (bytes "\"" ++ t))

start-short : (k : Kind) (i o : Depth) (id t : List ℕ) → length (start_text k i o id t) ≤ 100 + length id + length t
unfolding start_text
start-short k i o id t =
    let f : List ℕ = style_text k ++ (bytes ">\n" ++ t) in
    let e : List ℕ = node_id_text id f in
    let d : List ℕ = depth_text o ++ (bytes "\"" ++ e) in
    let c : List ℕ = depth_text i ++ (bytes "\" outBitDepth=\"" ++ d) in
    omega (
      arith,
      length-append (style_text k) (bytes ">\n" ++ t),
      node-id-short id f,
      length-append (depth_text o) (bytes "\"" ++ e),
      length-append (depth_text i) (bytes "\" outBitDepth=\"" ++ d),
      length-append (name_text k) (bytes " inBitDepth=\"" ++ c),
      name-short k,
      style-short k,
      depth-short i,
      depth-short o,
    )

end_short : (k : Kind) (t : List ℕ) → length (end_text k t) ≤ 20 + length t
unfolding end_text
end_short k t = omega (arith, length-append (name_text k) (bytes ">\n" ++ t), name-short k)

node-short : (e : Element) (t : List ℕ) → shape_right e.kind ≡ true → id_allowed e.id ≡ true → length (node_text e t) ≤ 21 * length e.numbers + 66000 + length t
unfolding node_text
node-short e t h a =
    let z = end_text e.kind t in
    let y = content_text e.kind e.numbers z in
    omega (arith, start-short e.kind e.input e.output e.id y, allowed-few e.id a, content-short e.kind e.numbers z h, end_short e.kind t)

-- what soundness says: of the shape, of the count of numbers, of each number, of the rules on them, and of the depths; of the id `sound-id` says it
pub record Parts (kind : Kind) (input output : Depth) (ds : List Decimal) : Type 0 where
  pub shape : shape_right kind ≡ true
  pub count : length ds ≡ numbers_of kind
  pub each : every carried ds ≡ true
  pub rules : rules_hold kind ds ≡ true
  pub depths : depths_right kind input output ≡ true

pub sound-parts : (e : Element) → sound e ≡ true → Parts e.kind e.input e.output e.numbers
unfolding sound
sound-parts e h =
    let a = shape_right e.kind in
    let b = eqb (length e.numbers) (numbers_of e.kind) in
    let c = every carried e.numbers in
    let d = rules_hold e.kind e.numbers in
    let f = depths_right e.kind e.input e.output in
    let n = both_true (a && b && c && d && f) (id_allowed e.id) h in
    let o = both_true (a && b && c && d) f n.0 in
    let p = both_true (a && b && c) d o.0 in
    let q = both_true (a && b) c p.0 in
    let r = both_true a b q.0 in
    record { shape = r.0; count = eqb-true (length e.numbers) (numbers_of e.kind) r.1; each = q.1; rules = p.1; depths = o.1 }

nodes-short : (es : List Element) (t : List ℕ) → every sound es ≡ true → length (nodes_text es t) ≤ 21 * length (all_numbers es) + 66000 * length es + length t
unfolding nodes_text every all_numbers
nodes-short [] t h = omega arith
nodes-short (e ∷ es) t h =
    let p = both_true (sound e) (every sound es) h in
    let s = sound-parts e p.0 in
    omega (arith, node-short e (nodes_text es t) s.shape (sound-id e p.0), nodes-short es t p.1, length-append e.numbers (all_numbers es))

-- ---- the whole
head-short : (id t : List ℕ) → length (head_text id t) ≤ 100 + length id + length t
unfolding head_text
head-short id t = omega (arith, length-append id (bytes "\" compCLFversion=\"3.0\">\n" ++ t))

-- the text of 32 sound elements at most, with 262,144 numbers at most
pub elements-short : (id : List ℕ) (es : List Element) → id_right most_id_bytes id ≡ true → every sound es ≡ true → length es ≤ 32 → length (all_numbers es) ≤ 262144
    → length (joined (list_lines id es)) ≤ 16777216
unfolding list_text
elements-short id es h s few n =
    let z : List ℕ = bytes "</ProcessList>\n" in
    rw (← list-text id es) (omega (arith, head-short id (nodes_text es z), (right-length most_id_bytes id h).1, nodes-short es z s))

module _ (l : ProcessList) (m : Room) (v : is_valid l m ≡ true) where
  -- what validity says of the list, and of its elements
  pub valid-list : Right l (room_length m)
  valid-list = (valid-parts l m v).list

  pub valid-sound : every sound (elements_of l m) ≡ true
  valid-sound = (valid-parts l m v).sounds

  pub list-short : (id : List ℕ) → id_right most_id_bytes id ≡ true → length (joined (list_lines id (elements_of l m))) ≤ 16777216
  unfolding nodes_of
  list-short id h =
      let r = valid-list in
      let f : capped (total (nodes_of l)) ≡ total (nodes_of l) = capped-exact _ (right-few l (room_length m) r) in
      elements-short id (elements_of l m) h valid-sound
      (omega (arith, elements-length l m, r.few, length-take l.count l.nodes))
      (omega (arith, used-is l m v, right-few l (room_length m) r))
