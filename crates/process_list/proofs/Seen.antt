-- An id seen on an earlier node: one node at a time, and what it does not depend on. Assumes nothing.
use mathlib.Core.Path.{◌≡◌, refl, sym, ap, ◌∙◌}
use mathlib.Core.Bool.{Bool, true, false, cond, ◌||◌}
use mathlib.Core.List.{List, [], ◌∷◌, ◌++◌, map, map-append}
use Prim.Native.Nat.{ℕ, ◌+◌, ◌≤◌, ◌<◌}
use native.Mathlib.Numerals.{add-one}
use lib.ListN.{length, take, drop, get_or, drop_of_length-le}
use lib.Seq.{take-suc, drop-cons}
use Rattle.std.specs.List.{list_any}
use Rattle.xml.specs.Bytes.{same}
use Rattle.ids.specs.Ids.{is_given, is_among, repeats}
use Rattle.process_list.specs.declared.Node.{Node}
use Rattle.process_list.specs.List.{numbers_of, with_position, place_from, blank_node, ids_of, first_repeat, is_seen}
use Rattle.process_list.specs.File.{file_node}

abbrev id_of : Node → List ℕ
id_of n = n.id

-- ---- neither positions nor kept numbers count

pub ids-place : (a : ℕ) (ns : List Node) → ids_of (place_from a ns) ≡ ids_of ns
unfolding ids_of place_from with_position
ids-place a [] = refl
ids-place a (n ∷ ns) = ap (λ (l : List (List ℕ)). n.id ∷ l) (ids-place (a + numbers_of n.kind) ns)

pub ids-file : (ns : List Node) → ids_of (map file_node ns) ≡ ids_of ns
unfolding ids_of
ids-file [] = refl
ids-file (n ∷ ns) = ap (λ (l : List (List ℕ)). n.id ∷ l) (ids-file ns)

pub place-seen : (a : ℕ) (ns : List Node) → first_repeat (place_from a ns) ≡ first_repeat ns
unfolding first_repeat
place-seen a ns = ap (repeats 1 []) (ids-place a ns)

pub file-seen : (ns : List Node) → first_repeat (map file_node ns) ≡ first_repeat ns
unfolding first_repeat
file-seen ns = ap (repeats 1 []) (ids-file ns)

-- ---- node by node

-- what is left to be asked before index k
abbrev pub seen_from : List Node → ℕ → ℕ
seen_from ns k = repeats (k + 1) (ids_of (take k ns)) (ids_of (drop k ns))

pub seen_start : (ns : List Node) → first_repeat ns ≡ seen_from ns 0
unfolding first_repeat ids_of
seen_start ns = refl

seen-cons : (ns : List Node) (k : ℕ) → k < length ns
    → seen_from ns k ≡ cond (is_seen ns k) (k + 1) (repeats (k + 1 + 1) (ids_of (take k ns) ++ ((get_or ns k blank_node).id ∷ [])) (ids_of (drop (k + 1) ns)))
unfolding is_seen ids_of repeats
seen-cons ns k h = rw (add-one k, drop-cons ns k blank_node h) refl

pub seen_here : (ns : List Node) (k : ℕ) → k < length ns → is_seen ns k ≡ true → seen_from ns k ≡ k + 1
seen_here ns k h e = seen-cons ns k h ∙ simp e

ids_more : (ns : List Node) (k : ℕ) → k < length ns → ids_of (take (k + 1) ns) ≡ ids_of (take k ns) ++ ((get_or ns k blank_node).id ∷ [])
unfolding ids_of
ids_more ns k h = rw (add-one k, take-suc ns k blank_node h) (map-append id_of (take k ns) (get_or ns k blank_node ∷ []))

pub seen-turn : (ns : List Node) (k : ℕ) → k < length ns → is_seen ns k ≡ false → seen_from ns k ≡ seen_from ns (k + 1)
seen-turn ns k h e =
    seen-cons ns k h ∙ (simp e) ∙ ap (λ (b : List (List ℕ)). repeats (k + 1 + 1) b (ids_of (drop (k + 1) ns))) (sym (ids_more ns k h))

pub seen_none : (ns : List Node) (k : ℕ) → length ns ≤ k → seen_from ns k ≡ 0
unfolding ids_of repeats
seen_none ns k h = rw (drop_of_length-le ns h) refl

-- ---- the nodes before index k
pub among-any : (id : List ℕ) (ns : List Node) → list_any (λ (n : Node). same id n.id) ns ≡ is_among id (ids_of ns)
unfolding is_among ids_of
among-any id [] = refl
among-any id (n ∷ ns) = ap (λ (b : Bool). same id n.id || b) (among-any id ns)

pub given-seen : (ns : List Node) (k : ℕ) (b : Bool) → is_given (get_or ns k blank_node).id ≡ true → b ≡ list_any (λ (n : Node). same (get_or ns k blank_node).id n.id) (take k ns)
    → b ≡ is_seen ns k
unfolding is_seen
given-seen ns k b g e = simp g (e ∙ among-any _ (take k ns))

pub not-given : (ns : List Node) (k : ℕ) → is_given (get_or ns k blank_node).id ≡ false → false ≡ is_seen ns k
unfolding is_seen
not-given ns k g = simp g
