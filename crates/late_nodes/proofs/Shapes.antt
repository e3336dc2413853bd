-- What is judged over a list looks at each node's depths, its count of numbers and its id alone. Assumes nothing.
use mathlib.Core.Path.{◌≡◌, refl, sym, ap, ◌∙◌}
use mathlib.Core.List.{List, [], ◌∷◌, map}
use Prim.Native.Nat.{ℕ, ◌+◌}
use lib.ListN.{length, set, get_or, length-map, get_or-map}
use lib.Seq.{map-set_same}
use Rattle.process_list.specs.declared.Depth.{Depth}
use Rattle.process_list.specs.List.{Element, numbers_of, node_of, unplaced, total, differs, first_differs, ids_of, first_repeat, judged, verdict, blank_element}
use Rattle.ids.specs.Ids.{repeats}
use Rattle.grammar.specs.Laws.{nope}

-- depths, count of numbers and id
pub record Shape : Type 0 where
  pub input : Depth
  pub output : Depth
  pub count : ℕ
  pub id : List ℕ

abbrev pub shape_of : Element → Shape
shape_of e = record { input = e.input; output = e.output; count = numbers_of e.kind; id = e.id }

abbrev pub shapes : List Element → List Shape
shapes = map shape_of

-- ---- by the shapes alone

total_of : List Shape → ℕ
total_of [] = 0
total_of (s ∷ ss) = s.count + total_of ss

same_total : (es : List Element) → total (map node_of es) ≡ total_of (shapes es)
unfolding total node_of unplaced total_of
same_total [] = refl
same_total (e ∷ es) = ap (λ (n : ℕ). numbers_of e.kind + n) (same_total es)

same_differs : (k : ℕ) (d : Depth) (es fs : List Element) → shapes es ≡ shapes fs → differs k d (map node_of es) ≡ differs k d (map node_of fs)
unfolding differs node_of unplaced
same_differs k d [] [] q = refl
same_differs k d [] (f ∷ fs) q = nope cc
same_differs k d (e ∷ es) [] q = nope cc
same_differs k d (e ∷ es) (f ∷ fs) q =
    let s : shape_of e ≡ shape_of f = cc in
    let t : shapes es ≡ shapes fs = cc in
    let i : e.input ≡ f.input = ap (λ (x : Shape). x.input) s in
    let o : e.output ≡ f.output = ap (λ (x : Shape). x.output) s in
    rw (same_differs (k + 1) e.output es fs t, i, o) refl

same_first : (es fs : List Element) → shapes es ≡ shapes fs → first_differs (map node_of es) ≡ first_differs (map node_of fs)
unfolding first_differs node_of unplaced
same_first [] [] q = refl
same_first [] (f ∷ fs) q = nope cc
same_first (e ∷ es) [] q = nope cc
same_first (e ∷ es) (f ∷ fs) q =
    let s : shape_of e ≡ shape_of f = cc in
    let t : shapes es ≡ shapes fs = cc in
    let o : e.output ≡ f.output = ap (λ (x : Shape). x.output) s in
    same_differs 2 e.output es fs t ∙ ap (λ (d : Depth). differs 2 d (map node_of fs)) o

same-ids : (es fs : List Element) → shapes es ≡ shapes fs → ids_of (map node_of es) ≡ ids_of (map node_of fs)
unfolding ids_of node_of unplaced
same-ids [] [] q = refl
same-ids [] (f ∷ fs) q = nope cc
same-ids (e ∷ es) [] q = nope cc
same-ids (e ∷ es) (f ∷ fs) q =
    let s : shape_of e ≡ shape_of f = cc in
    let t : shapes es ≡ shapes fs = cc in
    let i : e.id ≡ f.id = ap (λ (x : Shape). x.id) s in
    rw (i, same-ids es fs t) refl

same_seen : (es fs : List Element) → shapes es ≡ shapes fs → first_repeat (map node_of es) ≡ first_repeat (map node_of fs)
unfolding first_repeat
same_seen es fs q = ap (repeats 1 []) (same-ids es fs q)

same_length : (es fs : List Element) → shapes es ≡ shapes fs → length (map node_of es) ≡ length (map node_of fs)
same_length es fs q = length-map es node_of ∙ sym (length-map es shape_of) ∙ ap length q ∙ length-map fs shape_of ∙ sym (length-map fs node_of)

pub same-verdict : (room : ℕ) (es fs : List Element) → shapes es ≡ shapes fs → verdict room es ≡ verdict room fs
unfolding verdict judged
same-verdict room es fs q = rw (same_length es fs q, same_first es fs q, same_seen es fs q, same_total es ∙ ap total_of q ∙ sym (same_total fs)) refl

-- ---- one element more of the same shape

pub shape_at : (es fs : List Element) (i : ℕ) → shapes es ≡ shapes fs → shape_of (get_or es i blank_element) ≡ shape_of (get_or fs i blank_element)
shape_at es fs i q =
    sym (get_or-map shape_of es i blank_element) ∙ ap (λ (ss : List Shape). get_or ss i (shape_of blank_element)) q ∙ get_or-map shape_of fs i blank_element

pub set-shapes : (es fs : List Element) (i : ℕ) (v : Element) → shapes es ≡ shapes fs → shape_of v ≡ shape_of (get_or fs i blank_element) → shapes (set es i v) ≡ shapes fs
set-shapes es fs i v q s = map-set_same shape_of es i v blank_element (s ∙ sym (shape_at es fs i q)) ∙ q
