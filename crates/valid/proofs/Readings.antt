-- What refusal 16 comes to: a list and a room are valid exactly if they are what a reading of elements without fault leaves.
-- `made` has it one way, `parts` the other. Assumes nothing.
use mathlib.Core.Path.{◌≡◌, refl, sym, ap, ◌∙◌, subst}
use mathlib.Core.Bool.{Bool, true, false, ◌&&◌}
use mathlib.Core.List.{List, [], ◌∷◌, ◌++◌, map, map-append, append_assoc}
use Prim.Native.Nat.{ℕ, zero, suc, ◌+◌, ◌-◌, ◌≤◌}
use native.Mathlib.Omega.{arith}
use borrow.Author.Tests.{eqb-true, eq-eqb}
use lib.Dec.{eqb}
use lib.IntN.{ℤ, pos, negsuc}
use lib.ListN.{length, take, drop, replicate, length-append, length-take, length-drop, length-replicate, length-map, take-append-drop}
use lib.Seq.{take_at, drop_at, take-add, drop-drop, take-take}
use Rattle.decimal.specs.declared.Decimal.{Decimal}
use Rattle.process_list.specs.declared.Kind.{Kind}
use Rattle.process_list.specs.declared.Kind.TheVariants.{Matrix, Lut1d, Range, Cdl, Lut3d, OneEnd}
use Rattle.process_list.specs.declared.Depth.{Depth}
use Rattle.process_list.specs.declared.Depth.TheVariants.{I8}
use Rattle.process_list.specs.declared.Node.{Node}
use Rattle.process_list.specs.declared.ProcessList.{ProcessList}
use Rattle.std.proofs.Common.{Ok}
use Rattle.process_list.specs.List.{Element, most_nodes, numbers_of, node_of, unplaced, with_position, total, place_from, placed, capped, blank_node, list_of, nodes_of, judged, verdict, same_depth, all_numbers}
use Rattle.process_list.specs.File.{file_node, file_list}
use Rattle.process_list.proofs.Maps.{map-drop}
use Rattle.process_list.proofs.Files.{file-place, file-judged, file-total, file-nodes}
use Rattle.process_list.proofs.Laws.{same-depth-refl, capped-exact}
use Rattle.process_list.proofs.Lists.{same-depth, list-nodes, list_count, list-is, place-judged, total-place, heads-length, placed-length, accepted-fine, Fine}
use Rattle.xml.specs.Bytes.{same}
use Rattle.ids.specs.Ids.{no_id, held_id, id_text, id_allowed, is_held}
use Rattle.ids.proofs.Laws.{text-held}
use Rattle.room.specs.Room.{Room, room_length, filled, filled_with, coefficient_parts, power_parts}
use Rattle.room.proofs.Contents.{filled-run}
use Rattle.room.proofs.Rooms.{same-room, length-at-most, filled-room}
use Rattle.valid.specs.Valid.{every, pairs, numbers_at, element_of, elements_of, sound, shape_right, depths_right, carried, rules_hold, gapless, is_blank, is_blank_list, is_small_matrix, is_zero, list_right}
use Rattle.valid.specs.Valid.{id_held, rest_zero, zero_from, is_valid}
use Rattle.valid.proofs.Laws.{numbers-length}
use Rattle.valid.proofs.Elements.{both_true, Right, right-few, right-holds, Holds, valid-parts, valid-made}

-- ---- lists of tests
pub every-cons : {A : Type 0} (p : A → Bool) (x : A) (xs : List A) → every p (x ∷ xs) ≡ true → (p x ≡ true) × (every p xs ≡ true)
unfolding every
every-cons p x xs h = both_true (p x) (every p xs) h

pub every_made : {A : Type 0} (p : A → Bool) (x : A) (xs : List A) → p x ≡ true → every p xs ≡ true → every p (x ∷ xs) ≡ true
unfolding every
every_made p x xs h i = simp (h, i)

every-replicate : {A : Type 0} (p : A → Bool) (n : ℕ) (a : A) → p a ≡ true → every p (replicate n a) ≡ true
unfolding every
every-replicate p zero a h = refl
every-replicate p (suc n) a h = simp (h, every-replicate p n a h)

-- ---- texts that are the same, byte by byte
pub same_self : (w : List ℕ) → same w w ≡ true
unfolding same
same_self [] = refl
same_self (b ∷ w) = rw (eq-eqb b b refl, same_self w)

pub same-only : (v w : List ℕ) → same v w ≡ true → v ≡ w
unfolding same
same-only [] [] h = refl
same-only [] (c ∷ w) h = absurd (let z : ◌≡◌ {A = ℕ} 0 1 = cc in omega arith)
same-only (b ∷ v) [] h = absurd (let z : ◌≡◌ {A = ℕ} 0 1 = cc in omega arith)
same-only (b ∷ v) (c ∷ w) h =
    let p = both_true (eqb b c) (same v w) h in
    rw (eqb-true b c p.0, same-only v w p.1) refl

-- ---- an id in its places: one that was put there stands there as it is held, and one that is held there is its text put there
pub held-held : (t : List ℕ) → id_allowed t ≡ true → is_held (held_id t) ≡ true
unfolding is_held
held-held t h = rw (text-held t h) (same_self (held_id t))

pub held_back : (places : List ℕ) → is_held places ≡ true → held_id (id_text places) ≡ places
unfolding is_held
held_back places h = sym (same-only places (held_id (id_text places)) h)

-- ---- an element has as many numbers as its kind, and an id that is allowed
module _ (e : Element) (h : sound e ≡ true) where
  sound-both : (length e.numbers ≡ numbers_of e.kind) × (id_allowed e.id ≡ true)
  unfolding sound
  sound-both =
      let a = shape_right e.kind in
      let b = eqb (length e.numbers) (numbers_of e.kind) in
      let c = every carried e.numbers in
      let d = rules_hold e.kind e.numbers in
      let f = depths_right e.kind e.input e.output in
      let n = both_true (a && b && c && d && f) (id_allowed e.id) h in
      let o = both_true (a && b && c && d) f n.0 in
      let p = both_true (a && b && c) d o.0 in
      let q = both_true (a && b) c p.0 in
      (eqb-true (length e.numbers) (numbers_of e.kind) (both_true a b q.0).1, n.1)

  pub sound-whole-numbers : length e.numbers ≡ numbers_of e.kind
  sound-whole-numbers = sound-both.0

  pub sound-id : id_allowed e.id ≡ true
  sound-id = sound-both.1

-- a node of an element has the element's kind
pub head-kind : (e : Element) → (node_of e).kind ≡ e.kind
unfolding node_of unplaced
head-kind e = refl

pub all-length : (es : List Element) → every sound es ≡ true → length (all_numbers es) ≡ total (map node_of es)
unfolding all_numbers total
all-length [] h = refl
all-length (e ∷ es) h =
    let p = every-cons sound e es h in
    let w = sound-whole-numbers e p.0 in
    let i = all-length es p.1 in
    rw (length-append, head-kind) (omega arith)

-- ---- coefficients and powers side by side
pairs-back : (xs : List Decimal) → pairs (coefficient_parts xs) (power_parts xs) ≡ xs
unfolding pairs
pairs-back [] = refl
pairs-back (x ∷ xs) = ap (λ (l : List Decimal). x ∷ l) (pairs-back xs)

-- three runs, one part f of each number
pub parts-of : (f : Decimal → ℤ) (x o y : List Decimal) → map f (x ++ o ++ y) ≡ map f x ++ map f o ++ map f y
parts-of f x o y = rw (map-append f (x ++ o) y, map-append f x o) refl

-- the run o between x and y, in a room that holds one part f of each number
part : (f : Decimal → ℤ) (n : ℕ) (x o y : List Decimal) (s : List ℤ) → take (length o) (drop (length x) (filled n (pos 0) (map f (x ++ o ++ y)) s)) ≡ map f o
part f n x o y s =
    let e1 = parts-of f x o y in
    let e2 : length (map f x) ≡ length x = length-map x f in
    let e3 : length (map f o) ≡ length o = length-map o f in
    let r = filled-run n (pos 0) (map f x) (map f o) (map f y) s in
    rw e1 (rw (e2, e3) at r)

-- ---- positions without gaps
pub stands-kind : (a : ℕ) (n : Node) → (with_position a n).kind ≡ n.kind
unfolding with_position
stands-kind a n = refl

pub stands_at : (a : ℕ) (n : Node) → (with_position a n).at ≡ a
unfolding with_position
stands_at a n = refl

gapless-place : (a : ℕ) (ns : List Node) → gapless a (place_from a ns) ≡ true
unfolding gapless place_from
gapless-place a [] = refl
gapless-place a (n ∷ ns) = simp (eq-eqb _ _ (stands_at a n), stands-kind a n, gapless-place (a + numbers_of n.kind) ns)

-- ---- ids in their places
ids-place : (a : ℕ) (es : List Element) → every sound es ≡ true → every id_held (place_from a (map node_of es)) ≡ true
unfolding every place_from with_position node_of unplaced
ids-place a [] h = refl
ids-place a (e ∷ es) h =
    let p = every-cons sound e es h in
    simp (held-held e.id (sound-id e p.0), ids-place (a + numbers_of e.kind) es p.1)

-- ---- blank nodes
pub blank-is : is_blank blank_node ≡ true
unfolding is_blank blank_node unplaced
blank-is = simp (same-depth-refl I8, same_self no_id)

-- ---- zeros behind the numbers
pub rest-filled : (n : ℕ) (xs s : List ℤ) → length xs ≤ n → rest_zero n (length xs) (filled n (pos 0) xs s) ≡ true
unfolding rest_zero filled
rest-filled n xs s h =
    let r : List ℤ = replicate (n - length xs) (pos 0) in
    let t : take n (xs ++ r ++ drop n s) ≡ xs ++ r = take_at (xs ++ r) (drop n s) n (simp (length-append, length-replicate) (omega arith)) in
    rw (t, drop_at xs r (length xs) refl) (every-replicate is_zero (n - length xs) (pos 0) refl)

-- ---- what a reading leaves
module _ (m : Room) where
  -- the zeros behind the numbers
  pub filled_zero : (xs : List Decimal) → length xs ≤ room_length m → zero_from (length xs) (filled_with xs m) ≡ true
  unfolding zero_from filled_with
  filled_zero xs h =
      let n : room_length (filled_with xs m) ≡ room_length m = filled-room xs m h in
      let c = rw length-map at (rest-filled (room_length m) (coefficient_parts xs) m.coefficients (rw length-map h)) in
      let p = rw length-map at (rest-filled (room_length m) (power_parts xs) m.powers (rw length-map h)) in
      simp (n, c, p)

  -- the numbers o, between x and y
  numbers-back : (x o y : List Decimal) → numbers_at (filled_with (x ++ o ++ y) m) (length x) (length o) ≡ o
  unfolding numbers_at filled_with
  numbers-back x o y =
      let c = part (λ (d : Decimal). d.coefficient) (room_length m) x o y m.coefficients in
      let p = part (λ (d : Decimal). d.power) (room_length m) x o y m.powers in
      rw (c, p) (pairs-back o)

  element-back : (x : List Decimal) (e : Element) (y : List Decimal) → sound e ≡ true
      → element_of (filled_with (x ++ e.numbers ++ y) m) (with_position (length x) (node_of e)) ≡ e
  unfolding element_of with_position node_of unplaced
  element-back x e y h =
      let w = sound-whole-numbers e h in
      rw (← w, numbers-back x e.numbers y, text-held e.id (sound-id e h)) refl

  -- the elements that stand behind the numbers x
  elements-back : (x : List Decimal) (es : List Element) → every sound es ≡ true
      → map (element_of (filled_with (x ++ all_numbers es) m)) (place_from (length x) (map node_of es)) ≡ es
  unfolding all_numbers place_from
  elements-back x [] h = refl
  elements-back x (e ∷ es) h =
      let p = every-cons sound e es h in
      let w = sound-whole-numbers e p.0 in
      let a : x ++ all_numbers (e ∷ es) ≡ x ++ e.numbers ++ all_numbers es = sym (append_assoc x e.numbers (all_numbers es)) in
      let l : length x + numbers_of (node_of e).kind ≡ length (x ++ e.numbers) = rw (head-kind, length-append) (omega arith) in
      let P : List Decimal → Type 0 = λ ys. map (element_of (filled_with ys m)) (place_from (length x) (map node_of (e ∷ es))) ≡ e ∷ es in
      subst P (sym a) (rw (l, element-back x e (all_numbers es) p.0, elements-back (x ++ e.numbers) es p.1) refl)

  module _ (es : List Element) (s : every sound es ≡ true) (v : verdict (room_length m) es ≡ Ok tt) where
    fine : Fine (room_length m) (map node_of es)
    unfolding verdict
    fine = accepted-fine (room_length m) (map node_of es) v

    few : length es ≤ most_nodes
    few = rw heads-length at fine.few

    left-list : ProcessList
    left-list = list_of (placed es)

    left-nodes : nodes_of left-list ≡ placed es
    unfolding left-list
    left-nodes = list-nodes (placed es) (rw placed-length few)

    left-blank : every is_blank (drop left-list.count left-list.nodes) ≡ true
    unfolding left-list
    left-blank =
        let k = placed-length es in
        let d = drop_at (placed es) (replicate (most_nodes - length (placed es)) blank_node) (length (placed es)) refl in
        rw (list-is (placed es) (omega (arith, few)), d) (every-replicate is_blank (most_nodes - length (placed es)) blank_node blank-is)

    left-right : Right left-list (room_length m)
    unfolding placed left-list verdict
    left-right =
        record {
          few = rw (list_count (placed es) (rw placed-length few), placed-length) few;
          accepted = rw left-nodes (place-judged (room_length m) 0 (map node_of es) ∙ v);
          placed = rw left-nodes (gapless-place 0 (map node_of es));
          ids = rw left-nodes (ids-place 0 es s);
          blank = left-blank;
        }

    numbers-few : length (all_numbers es) ≤ room_length m
    numbers-few = let f = fine in rw (all-length es s) (omega arith)

    left-total : total (nodes_of left-list) ≡ length (all_numbers es)
    unfolding placed
    left-total = rw left-nodes (total-place 0 (map node_of es) ∙ sym (all-length es s))

    -- the count of all numbers, as the code keeps it, is exact
    pub used-placed : capped (total (nodes_of (list_of (placed es)))) ≡ length (all_numbers es)
    unfolding left-list
    used-placed = let f = fine in let e = left-total in let a = all-length es s in capped-exact _ (omega arith) ∙ left-total

    pub left-elements : elements_of (list_of (placed es)) (filled_with (all_numbers es) m) ≡ es
    unfolding elements_of placed left-list
    left-elements = rw left-nodes (elements-back [] es s)

    pub made : is_valid (list_of (placed es)) (filled_with (all_numbers es) m) ≡ true
    unfolding left-list
    made =
        let n = filled-room (all_numbers es) m numbers-few in
        let z = filled_zero (all_numbers es) numbers-few in
        valid-made (list_of (placed es)) (filled_with (all_numbers es) m)
        (record { list = rw n left-right; sounds = rw left-elements s; rest = rw left-total z })

-- ---- what is valid is what a reading leaves
stands-there : (a : ℕ) (n : Node) → n.at ≡ a → with_position a n ≡ n
unfolding with_position
stands-there a n e = rw (← e) refl

gapless-placed : (a : ℕ) (ns : List Node) → gapless a ns ≡ true → place_from a ns ≡ ns
unfolding gapless place_from
gapless-placed a [] h = refl
gapless-placed a (n ∷ ns) h =
    let p = both_true (eqb n.at a) (gapless (a + numbers_of n.kind) ns) h in
    rw (stands-there a n (eqb-true n.at a p.0), gapless-placed (a + numbers_of n.kind) ns p.1) refl

-- a node's element gives back what a file says of the node, but for the position, where the id is held in its places
module _ (m : Room) where
  stands-back : (a : ℕ) (n : Node) → id_held n ≡ true → with_position a (node_of (element_of m n)) ≡ with_position a (file_node n)
  unfolding with_position node_of unplaced element_of
  stands-back a n h = rw (held_back n.id h) refl

  kind-back : (n : Node) → (node_of (element_of m n)).kind ≡ n.kind
  unfolding node_of unplaced element_of
  kind-back n = refl

  place-back : (a : ℕ) (ns : List Node) → every id_held ns ≡ true → place_from a (map node_of (map (element_of m) ns)) ≡ place_from a (map file_node ns)
  unfolding place_from
  place-back a [] h = refl
  place-back a (n ∷ ns) h =
      let p = every-cons id_held n ns h in
      rw (stands-back a n p.0, kind-back n, place-back (a + numbers_of n.kind) ns p.1) refl

-- a blank node is one, but for its kept number
node : Kind → Depth → Depth → List ℕ → ℕ → Node
node k i o t a = record { kind = k; input = i; output = o; id = t; at = a; newest = 0 }

small_is : (k : Kind) → is_small_matrix k ≡ true → k ≡ Matrix false
small_is (Matrix true) h = absurd (let z : ◌≡◌ {A = ℕ} 0 1 = cc in omega arith)
small_is (Matrix false) h = refl
small_is (Lut1d n c) h = absurd (let z : ◌≡◌ {A = ℕ} 0 1 = cc in omega arith)
small_is (Range c) h = absurd (let z : ◌≡◌ {A = ℕ} 0 1 = cc in omega arith)
small_is (Cdl c) h = absurd (let z : ◌≡◌ {A = ℕ} 0 1 = cc in omega arith)
small_is (Lut3d n c) h = absurd (let z : ◌≡◌ {A = ℕ} 0 1 = cc in omega arith)
small_is (OneEnd e) h = absurd (let z : ◌≡◌ {A = ℕ} 0 1 = cc in omega arith)

node-is : (n : Node) → file_node n ≡ node n.kind n.input n.output n.id n.at
unfolding node
node-is n = refl

blank-node-is : blank_node ≡ node (Matrix false) I8 I8 no_id 0
unfolding node blank_node unplaced
blank-node-is = refl

pub blank-only : (n : Node) → is_blank n ≡ true → file_node n ≡ blank_node
unfolding is_blank
blank-only n h =
    let a = is_small_matrix n.kind in
    let b = same_depth n.input I8 in
    let c = same_depth n.output I8 in
    let d = eqb n.at 0 in
    let s = both_true (a && b && c && d) (same n.id no_id) h in
    let p = both_true (a && b && c) d s.0 in
    let q = both_true (a && b) c p.0 in
    let r = both_true a b q.0 in
    let k = small_is n.kind r.0 in
    let i = same-depth n.input I8 r.1 in
    let o = same-depth n.output I8 q.1 in
    let z = eqb-true n.at 0 p.1 in
    let t = same-only n.id no_id s.1 in
    node-is n ∙ (rw (k, i, o, z, t) (sym blank-node-is))

-- where g makes a of every one, the list of these repeats a
pub every-same : {A B : Type 0} (p : A → Bool) (g : A → B) (a : B) → ((x : A) → p x ≡ true → g x ≡ a) → (xs : List A) → every p xs ≡ true → map g xs ≡ replicate (length xs) a
every-same p g a f [] h = refl
every-same p g a f (x ∷ xs) h =
    let q = every-cons p x xs h in
    rw (← every-same p g a f xs q.1, f x q.0) refl

pub zero-only : (z : ℤ) → is_zero z ≡ true → z ≡ pos 0
zero-only (pos n) h = ap pos (eqb-true n 0 h)
zero-only (negsuc n) h = absurd (let e : suc n ≡ 0 = eqb-true (suc n) 0 h in omega arith)

-- the list of no nodes is one
same-list : {a b : ℕ} {xs ys : List Node} → a ≡ b → xs ≡ ys → ◌≡◌ {A = ProcessList} (record { count = a; nodes = xs }) (record { count = b; nodes = ys })
same-list e f = cc

pub blank-list-is : (l : ProcessList) → length l.nodes ≡ most_nodes → is_blank_list l ≡ true → file_list l ≡ list_of []
unfolding is_blank_list file_list
blank-list-is l array h =
    let p = both_true (eqb l.count 0) (every is_blank l.nodes) h in
    let c = eqb-true l.count 0 p.0 in
    let n : map file_node l.nodes ≡ replicate most_nodes blank_node = rw array at (every-same is_blank file_node blank_node blank-only l.nodes p.1) in
    same-list c n ∙ sym (list-is [] (omega arith))

pub blank-list : is_blank_list (list_of []) ≡ true
unfolding is_blank_list
blank-list = rw (list-is [] (omega arith)) (every-replicate is_blank most_nodes blank_node blank-is)

-- ---- the numbers of a run, part by part
pairs-append : (xs ys us vs : List ℤ) → length xs ≡ length ys → pairs (xs ++ us) (ys ++ vs) ≡ pairs xs ys ++ pairs us vs
unfolding pairs
pairs-append [] [] us vs h = refl
pairs-append [] (b ∷ ys) us vs h = absurd (omega arith)
pairs-append (a ∷ xs) [] us vs h = absurd (omega arith)
pairs-append (a ∷ xs) (b ∷ ys) us vs h = ap (λ (l : List Decimal). record { coefficient = a; power = b } ∷ l) (pairs-append xs ys us vs (omega arith))

coefficients-pairs : (xs ys : List ℤ) → length xs ≡ length ys → coefficient_parts (pairs xs ys) ≡ xs
unfolding pairs
coefficients-pairs [] ys h = refl
coefficients-pairs (a ∷ xs) [] h = absurd (omega arith)
coefficients-pairs (a ∷ xs) (b ∷ ys) h = ap (λ (l : List ℤ). a ∷ l) (coefficients-pairs xs ys (omega arith))

powers-pairs : (xs ys : List ℤ) → length xs ≡ length ys → power_parts (pairs xs ys) ≡ ys
unfolding pairs
powers-pairs [] [] h = refl
powers-pairs [] (b ∷ ys) h = absurd (omega arith)
powers-pairs (a ∷ xs) [] h = absurd (omega arith)
powers-pairs (a ∷ xs) (b ∷ ys) h = ap (λ (l : List ℤ). b ∷ l) (powers-pairs xs ys (omega arith))

module _ (m : Room) where
  numbers-split : (a k j : ℕ) → a + (k + j) ≤ room_length m → numbers_at m a (k + j) ≡ numbers_at m a k ++ numbers_at m (a + k) j
  unfolding numbers_at room_length
  numbers-split a k j h =
      let cs = m.coefficients in
      let ps = m.powers in
      let l : length (take k (drop a cs)) ≡ length (take k (drop a ps)) = simp (length-take, length-drop) (omega arith) in
      rw (take-add k j (drop a cs), take-add k j (drop a ps), drop-drop k a cs, drop-drop k a ps)
      (pairs-append (take k (drop a cs)) (take k (drop a ps)) (take j (drop (a + k) cs)) (take j (drop (a + k) ps)) l)

  element-numbers : (n : Node) → (element_of m n).numbers ≡ numbers_at m n.at (numbers_of n.kind)
  unfolding element_of
  element-numbers n = refl

  pub numbers-none : (a : ℕ) → numbers_at m a 0 ≡ []
  unfolding numbers_at pairs
  numbers-none a = refl

  -- without gaps, the elements' numbers are the room's, from the first node's position on
  all-numbers : (a : ℕ) (ns : List Node) → gapless a ns ≡ true → a + total ns ≤ room_length m → all_numbers (map (element_of m) ns) ≡ numbers_at m a (total ns)
  unfolding all_numbers gapless total
  all-numbers a [] g h = sym (numbers-none a)
  all-numbers a (n ∷ ns) g h =
      let p = both_true (eqb n.at a) (gapless (a + numbers_of n.kind) ns) g in
      let e = eqb-true n.at a p.0 in
      let r = all-numbers (a + numbers_of n.kind) ns p.1 (omega arith) in
      rw (element-numbers n, e, r) (sym (numbers-split a (numbers_of n.kind) (total ns) h))

-- ---- a room of which t numbers are used and the rest is zero: one slice, then the whole
map-self : (s : List ℤ) → map (λ (y : ℤ). y) s ≡ s
map-self [] = refl
map-self (y ∷ s) = ap (λ (l : List ℤ). y ∷ l) (map-self s)

pub room-filled : (n t : ℕ) (s : List ℤ) → t ≤ n → n ≤ length s → rest_zero n t s ≡ true → s ≡ filled n (pos 0) (take t s) s
unfolding rest_zero filled
room-filled n t s h k z =
    let r : drop t (take n s) ≡ replicate (length (drop t (take n s))) (pos 0) = sym (map-self (drop t (take n s))) ∙ every-same is_zero (λ (y : ℤ). y) (pos 0) zero-only (drop t (take n s)) z in
    let l : length (drop t (take n s)) ≡ n - length (take t s) = simp (length-drop, length-take) (omega arith) in
    let a : take t (take n s) ≡ take t s = take-take t n s h in
    let b : take t (take n s) ++ drop t (take n s) ≡ take n s = take-append-drop t (take n s) in
    let c : take n s ++ drop n s ≡ s = take-append-drop n s in
    let d : take t s ++ replicate (n - length (take t s)) (pos 0) ≡ take n s = rw (← l, ← r, ← a) b in
    rw d (sym c)

pub zero-filled : (m : Room) (t : ℕ) → t ≤ room_length m → zero_from t m ≡ true → m ≡ filled_with (numbers_at m 0 t) m
unfolding zero_from filled_with numbers_at
zero-filled m t h z =
    let n = room_length m in
    let l = length-at-most m in
    let p = both_true (rest_zero n t m.coefficients) (rest_zero n t m.powers) z in
    let e : length (take t m.coefficients) ≡ length (take t m.powers) = simp length-take (omega arith) in
    same-room
    (rw (coefficients-pairs (take t m.coefficients) (take t m.powers) e) (room-filled n t m.coefficients h l.0 p.0))
    (rw (powers-pairs (take t m.coefficients) (take t m.powers) e) (room-filled n t m.powers h l.1 p.1))

-- what is valid: the list, by what a file says of it, and the room that a reading of these elements leaves
pub record Reading (l : ProcessList) (m : Room) (es : List Element) : Type 0 where
  pub list : file_list l ≡ list_of (placed es)
  pub room : m ≡ filled_with (all_numbers es) m
  pub accepted : verdict (room_length m) es ≡ Ok tt
  pub sounds : every sound es ≡ true

module _ (l : ProcessList) (m : Room) (h : is_valid l m ≡ true) where
  holds : Holds l m
  holds = valid-parts l m h

  inside : total (nodes_of l) ≤ room_length m
  inside = right-holds l (room_length m) holds.list

  numbers-are : all_numbers (elements_of l m) ≡ numbers_at m 0 (total (nodes_of l))
  unfolding elements_of
  numbers-are = let i = inside in all-numbers m 0 (nodes_of l) holds.list.placed (omega arith)

  -- the count of its numbers, as the code keeps it, is exact
  pub used-is : capped (total (nodes_of l)) ≡ length (all_numbers (elements_of l m))
  used-is =
      let i = inside in
      let e : length (numbers_at m 0 (total (nodes_of l))) ≡ total (nodes_of l) = numbers-length m 0 (total (nodes_of l)) (omega arith) in
      capped-exact _ (right-few l (room_length m) holds.list) ∙ sym e ∙ ap length (sym numbers-are)

module _ (l : ProcessList) (m : Room) (array : length l.nodes ≡ 32) (h : is_valid l m ≡ true) where
  right : Right l (room_length m)
  right = (valid-parts l m h).list

  back : placed (elements_of l m) ≡ map file_node (nodes_of l)
  unfolding placed elements_of
  back = place-back m 0 (nodes_of l) right.ids ∙ sym (file-place 0 (nodes_of l)) ∙ ap (map file_node) (gapless-placed 0 (nodes_of l) right.placed)

  held : length (nodes_of l) ≡ l.count
  unfolding nodes_of
  held = let r = right.few in simp length-take (omega arith)

  nodes-back : map file_node (nodes_of l) ++ replicate (most_nodes - length (nodes_of l)) blank_node ≡ map file_node l.nodes
  unfolding nodes_of
  nodes-back =
      let e = every-same is_blank file_node blank_node blank-only (drop l.count l.nodes) right.blank in
      let k : most_nodes - length (take l.count l.nodes) ≡ length (drop l.count l.nodes) = rw length-drop (omega (arith, held)) in
      rw (k, ← e, ← map-append file_node (take l.count l.nodes) (drop l.count l.nodes), take-append-drop l.count l.nodes) refl

  list_back : file_list l ≡ list_of (map file_node (nodes_of l))
  unfolding file_list
  list_back =
      let r = right.few in
      let n : length (map file_node (nodes_of l)) ≡ l.count = length-map (nodes_of l) file_node ∙ held in
      rw (list-is (map file_node (nodes_of l)) (omega arith), length-map, nodes-back, held) refl

  accepted-back : verdict (room_length m) (elements_of l m) ≡ Ok tt
  unfolding verdict placed
  accepted-back = sym (place-judged (room_length m) 0 (map node_of (elements_of l m))) ∙ ap (judged (room_length m)) back ∙ file-judged (room_length m) (nodes_of l) ∙ right.accepted

  pub parts : Reading l m (elements_of l m)
  parts =
      let v = valid-parts l m h in
      record {
        list = list_back ∙ ap list_of (sym back);
        room = zero-filled m (total (nodes_of l)) (inside l m h) v.rest ∙ ap (λ (xs : List Decimal). filled_with xs m) (sym (numbers-are l m h));
        accepted = accepted-back;
        sounds = v.sounds;
      }

-- ---- 16 'ignores' the kept numbers (02, W-208)
file-elements : (m : Room) (ns : List Node) → map (element_of m) (map file_node ns) ≡ map (element_of m) ns
unfolding element_of
file-elements m [] = refl
file-elements m (n ∷ ns) = ap (λ (es : List Element). element_of m n ∷ es) (file-elements m ns)

pub elements-file : (l : ProcessList) (m : Room) → elements_of (file_list l) m ≡ elements_of l m
unfolding elements_of
elements-file l m = rw (file-nodes l) (file-elements m (nodes_of l))

file-gapless : (a : ℕ) (ns : List Node) → gapless a (map file_node ns) ≡ gapless a ns
unfolding gapless
file-gapless a [] = refl
file-gapless a (n ∷ ns) = rw (file-gapless (a + numbers_of n.kind) ns) refl

-- a test that looks at no kept number
file-every : (p : Node → Bool) → ((n : Node) → p (file_node n) ≡ p n) → (ns : List Node) → every p (map file_node ns) ≡ every p ns
unfolding every
file-every p f [] = refl
file-every p f (n ∷ ns) = rw (f n, file-every p f ns) refl

file-blank : (ns : List Node) → every is_blank (map file_node ns) ≡ every is_blank ns
unfolding is_blank
file-blank = file-every is_blank (λ n. refl)

pub valid-file : (l : ProcessList) (m : Room) → is_valid (file_list l) m ≡ is_valid l m
unfolding is_valid list_right file_list
valid-file l m =
    rw (
      elements-file l m,
      file-nodes l,
      file-total (nodes_of l),
      file-judged (room_length m) (nodes_of l),
      file-gapless 0 (nodes_of l),
      file-every id_held (λ n. refl) (nodes_of l),
      ← map-drop file_node l.count l.nodes,
      file-blank (drop l.count l.nodes),
    ) refl

-- ---- the two together
module _ (l : ProcessList) (m : Room) (es : List Element) (r : Reading l m es) where
  pub reading-valid : is_valid l m ≡ true
  reading-valid =
      let v : is_valid (list_of (placed es)) (filled_with (all_numbers es) m) ≡ true = made m es r.sounds r.accepted in
      sym (valid-file l m) ∙ ap (λ (k : ProcessList). is_valid k m) r.list ∙ ap (is_valid (list_of (placed es))) r.room ∙ v

  -- list and room say which elements were read
  pub reading-elements : elements_of l m ≡ es
  reading-elements =
      let e : elements_of (list_of (placed es)) (filled_with (all_numbers es) m) ≡ es = left-elements m es r.sounds r.accepted in
      sym (elements-file l m) ∙ ap (λ (k : ProcessList). elements_of k m) r.list ∙ ap (elements_of (list_of (placed es))) r.room ∙ e
