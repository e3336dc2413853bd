-- A list is what a file says of it and its kept numbers; what is judged, counted and placed does not look at these. Assumes nothing.
use mathlib.Core.Path.{◌≡◌, refl, sym, ap, ◌∙◌}
use mathlib.Core.Bool.{Bool, true, false, cond}
use mathlib.Core.List.{List, [], ◌∷◌, ◌++◌, map, map-append}
use Prim.Native.Nat.{ℕ, zero, suc, ◌+◌, ◌<◌}
use native.Mathlib.Omega.{arith}
use borrow.Author.Tests.{lt-ltb}
use lib.Dec.{ltb, leb}
use lib.ListN.{length, take, drop, set, get_or, replicate, length-map, get_or-map}
use Rattle.process_list.specs.declared.Depth.{Depth}
use Rattle.process_list.specs.declared.Node.{Node}
use Rattle.process_list.specs.declared.ProcessList.{ProcessList}
use Rattle.process_list.specs.List.{most_numbers, most_nodes, numbers_of, Element, node_of, unplaced, total, with_position, place_from, placed, list_of, nodes_of, node_at}
use Rattle.process_list.specs.List.{blank_node, replaced_at, placed_list, differs, first_differs, judged}
use Rattle.process_list.specs.File.{file_node, file_list, kept_numbers, with_newest, keeping_nodes, keeping}
use Rattle.process_list.proofs.Maps.{map-take, map-drop, map-set}
use Rattle.process_list.proofs.Lists.{list_length}
use Rattle.process_list.proofs.Seen.{file-seen}

-- ---- the two parts of a list

split-nodes : (ns : List Node) → keeping_nodes (map (λ (n : Node). n.newest) ns) (map file_node ns) ≡ ns
unfolding keeping_nodes
split-nodes [] = refl
split-nodes (n ∷ ns) = ap (λ (l : List Node). n ∷ l) (split-nodes ns)

pub list-split : (l : ProcessList) → keeping (kept_numbers l) (file_list l) ≡ l
unfolding keeping kept_numbers file_list
list-split l = ap (λ (ns : List Node). record { count = l.count; nodes = ns }) (split-nodes l.nodes)

file-kept : (ks : List ℕ) (ns : List Node) → map file_node (keeping_nodes ks ns) ≡ map file_node ns
unfolding keeping_nodes
file-kept ks [] = refl
file-kept [] (n ∷ ns) = refl
file-kept (k ∷ ks) (n ∷ ns) = ap (λ (l : List Node). file_node n ∷ l) (file-kept ks ns)

-- what a file says does not change with the kept numbers
pub file-keeping : (ks : List ℕ) (l : ProcessList) → file_list (keeping ks l) ≡ file_list l
unfolding keeping file_list
file-keeping ks l = ap (λ (ns : List Node). record { count = l.count; nodes = ns }) (file-kept ks l.nodes)

kept-nodes : (ks : List ℕ) (ns : List Node) → length ks ≡ length ns → map (λ (n : Node). n.newest) (keeping_nodes ks ns) ≡ ks
unfolding keeping_nodes
kept-nodes [] [] h = refl
kept-nodes (k ∷ ks) [] h = absurd (omega arith)
kept-nodes [] (n ∷ ns) h = absurd (omega arith)
kept-nodes (k ∷ ks) (n ∷ ns) h = ap (λ (l : List ℕ). k ∷ l) (kept-nodes ks ns (omega arith))

pub kept-keeping : (ks : List ℕ) (l : ProcessList) → length ks ≡ length l.nodes → kept_numbers (keeping ks l) ≡ ks
unfolding keeping kept_numbers
kept-keeping ks l h = kept-nodes ks l.nodes h

keeping-file-nodes : (ks : List ℕ) (ns : List Node) → length ks ≡ length ns → keeping_nodes ks (map file_node ns) ≡ keeping_nodes ks ns
unfolding keeping_nodes
keeping-file-nodes ks [] h = refl
keeping-file-nodes [] (n ∷ ns) h = absurd (omega arith)
keeping-file-nodes (k ∷ ks) (n ∷ ns) h = ap (λ (l : List Node). with_newest k n ∷ l) (keeping-file-nodes ks ns (omega arith))

pub kept-length : (l : ProcessList) → length (kept_numbers l) ≡ length l.nodes
unfolding kept_numbers
kept-length l = length-map l.nodes (λ (n : Node). n.newest)

pub file-array : (l : ProcessList) → length (file_list l).nodes ≡ length l.nodes
unfolding file_list
file-array l = length-map l.nodes file_node

-- the number kept at an index
pub kept-at : (l : ProcessList) (i : ℕ) → i < length (nodes_of l) → get_or (kept_numbers l) i 0 ≡ (node_at l i).newest
unfolding kept_numbers node_at nodes_of blank_node unplaced
kept-at l i h = go l.nodes l.count i h
  where
    go : (ns : List Node) (c j : ℕ) → j < length (take c ns) → get_or (map (λ (n : Node). n.newest) ns) j 0 ≡ (get_or (take c ns) j blank_node).newest
    go ns zero j k = absurd (omega arith)
    go [] (suc c) j k = absurd (omega arith)
    go (n ∷ ns) (suc c) zero k = refl
    go (n ∷ ns) (suc c) (suc j) k = go ns c j (omega arith)

-- ---- what a file says of nodes

pub file-total : (ns : List Node) → total (map file_node ns) ≡ total ns
unfolding total
file-total [] = refl
file-total (n ∷ ns) = ap (λ (t : ℕ). numbers_of n.kind + t) (file-total ns)

file-differs : (k : ℕ) (d : Depth) (ns : List Node) → differs k d (map file_node ns) ≡ differs k d ns
unfolding differs
file-differs k d [] = refl
file-differs k d (n ∷ ns) = rw (file-differs (k + 1) n.output ns) refl

file-first : (ns : List Node) → first_differs (map file_node ns) ≡ first_differs ns
unfolding first_differs
file-first [] = refl
file-first (n ∷ ns) = file-differs 2 n.output ns

pub file-judged : (room : ℕ) (ns : List Node) → judged room (map file_node ns) ≡ judged room ns
unfolding judged
file-judged room ns = simp (length-map, file-first, file-seen, file-total)

pub file-place : (a : ℕ) (ns : List Node) → map file_node (place_from a ns) ≡ place_from a (map file_node ns)
unfolding place_from with_position
file-place a [] = refl
file-place a (n ∷ ns) = rw (file-place (a + numbers_of n.kind) ns) refl

kept-place : (a : ℕ) (ns : List Node) → map (λ (n : Node). n.newest) (place_from a ns) ≡ map (λ (n : Node). n.newest) ns
unfolding place_from with_position
kept-place a [] = refl
kept-place a (n ∷ ns) = rw (kept-place (a + numbers_of n.kind) ns) refl

-- ---- of lists

pub file-nodes : (l : ProcessList) → nodes_of (file_list l) ≡ map file_node (nodes_of l)
unfolding nodes_of file_list
file-nodes l = sym (map-take file_node l.count l.nodes)

pub file-node-at : (l : ProcessList) (i : ℕ) → node_at (file_list l) i ≡ file_node (node_at l i)
unfolding node_at blank_node unplaced
file-node-at l i = rw (file-nodes l) (get_or-map file_node (nodes_of l) i blank_node)

pub file-held : (l : ProcessList) → length (nodes_of (file_list l)) ≡ length (nodes_of l)
file-held l = ap length (file-nodes l) ∙ length-map (nodes_of l) file_node

pub file-replaced : (l : ProcessList) (i : ℕ) (n : Node) → file_list (replaced_at l i n) ≡ replaced_at (file_list l) i (file_node n)
unfolding replaced_at file_list
file-replaced l i n = rw (file-held l) (go (ltb i (length (nodes_of l))))
  where
    go : (b : Bool) → file_list (cond b (record { count = l.count; nodes = set l.nodes i n }) l)
        ≡ cond b (record { count = l.count; nodes = set (map file_node l.nodes) i (file_node n) }) (file_list l)
    go true = ap (λ (ns : List Node). record { count = l.count; nodes = ns }) (map-set file_node l.nodes i n)
    go false = refl

pub kept-replaced : (l : ProcessList) (i : ℕ) (n : Node) → i < length (nodes_of l) → kept_numbers (replaced_at l i n) ≡ set (kept_numbers l) i n.newest
unfolding replaced_at kept_numbers
kept-replaced l i n h = rw (lt-ltb _ _ h) (map-set (λ (m : Node). m.newest) l.nodes i n)

-- a function over every node, and a list placed anew
module _ {B : Type 0} (f : Node → B) where
  map-parts : (xs : List Node) (k : ℕ) (ns : List Node) → map f (xs ++ drop k ns) ≡ map f xs ++ drop k (map f ns)
  map-parts xs k ns = map-append f xs (drop k ns) ∙ ap (λ (l : List B). map f xs ++ l) (map-drop f k ns)

pub file-placed : (l : ProcessList) → file_list (placed_list l) ≡ placed_list (file_list l)
unfolding placed_list file_list
file-placed l = rw (file-held l, file-nodes l, file-total (nodes_of l)) (go (leb (total (nodes_of l)) most_numbers))
  where
    whole : map file_node (place_from 0 (nodes_of l) ++ drop (length (nodes_of l)) l.nodes) ≡ place_from 0 (map file_node (nodes_of l)) ++ drop (length (nodes_of l)) (map file_node l.nodes)
    whole =
        map-parts file_node (place_from 0 (nodes_of l)) (length (nodes_of l)) l.nodes
        ∙ ap (λ (ns : List Node). ns ++ drop (length (nodes_of l)) (map file_node l.nodes)) (file-place 0 (nodes_of l))

    go : (b : Bool) → file_list (cond b (record { count = l.count; nodes = place_from 0 (nodes_of l) ++ drop (length (nodes_of l)) l.nodes }) l)
        ≡ cond b (record { count = l.count; nodes = place_from 0 (map file_node (nodes_of l)) ++ drop (length (nodes_of l)) (map file_node l.nodes) }) (file_list l)
    go true = ap (λ (ns : List Node). record { count = l.count; nodes = ns }) whole
    go false = refl

front-back : (c : ℕ) (ns : List Node) → take c ns ++ drop (length (take c ns)) ns ≡ ns
front-back zero ns = refl
front-back (suc c) [] = refl
front-back (suc c) (n ∷ ns) = ap (λ (l : List Node). n ∷ l) (front-back c ns)

-- placing anew changes no kept number
pub kept-placed : (l : ProcessList) → kept_numbers (placed_list l) ≡ kept_numbers l
unfolding placed_list kept_numbers nodes_of
kept-placed l = go (leb (total (take l.count l.nodes)) most_numbers)
  where
    newest : Node → ℕ
    newest n = n.newest

    whole : map newest (place_from 0 (take l.count l.nodes) ++ drop (length (take l.count l.nodes)) l.nodes) ≡ map newest l.nodes
    whole =
        let ns : List Node = take l.count l.nodes in
        map-append newest (place_from 0 ns) (drop (length ns) l.nodes)
        ∙ ap (λ (ks : List ℕ). ks ++ map newest (drop (length ns) l.nodes)) (kept-place 0 ns)
        ∙ sym (map-append newest ns (drop (length ns) l.nodes))
        ∙ ap (map newest) (front-back l.count l.nodes)

    go : (b : Bool) → map newest (cond b (record { count = l.count; nodes = place_from 0 (take l.count l.nodes) ++ drop (length (take l.count l.nodes)) l.nodes }) l).nodes
        ≡ map newest l.nodes
    go true = whole
    go false = refl

-- ---- a list as it is read: nothing but what a file says, and each kept number 0

file-heads : (es : List Element) → map file_node (map node_of es) ≡ map node_of es
unfolding node_of unplaced
file-heads [] = refl
file-heads (e ∷ es) = ap (λ (l : List Node). node_of e ∷ l) (file-heads es)

file-replicate : (k : ℕ) → map file_node (replicate k blank_node) ≡ replicate k blank_node
unfolding blank_node unplaced
file-replicate zero = refl
file-replicate (suc k) = ap (λ (l : List Node). blank_node ∷ l) (file-replicate k)

pub file-list-of : (ns : List Node) → file_list (list_of ns) ≡ list_of (map file_node ns)
unfolding file_list list_of
file-list-of ns =
    rw (length-map, map-take file_node most_nodes (ns ++ replicate most_nodes blank_node), map-append file_node ns (replicate most_nodes blank_node), file-replicate most_nodes) refl

pub file-fresh : (es : List Element) → file_list (list_of (placed es)) ≡ list_of (placed es)
unfolding placed
file-fresh es = file-list-of (place_from 0 (map node_of es)) ∙ ap list_of (file-place 0 (map node_of es) ∙ ap (place_from 0) (file-heads es))

pub kept-file : (l : ProcessList) → kept_numbers (file_list l) ≡ replicate (length l.nodes) 0
unfolding kept_numbers file_list
kept-file l = go l.nodes
  where
    go : (ns : List Node) → map (λ (n : Node). n.newest) (map file_node ns) ≡ replicate (length ns) 0
    go [] = refl
    go (n ∷ ns) = ap (λ (ks : List ℕ). 0 ∷ ks) (go ns)

pub kept_fresh : (es : List Element) → kept_numbers (list_of (placed es)) ≡ replicate most_nodes 0
kept_fresh es = ap kept_numbers (sym (file-fresh es)) ∙ kept-file (list_of (placed es)) ∙ ap (λ (k : ℕ). replicate k 0) (list_length (placed es))

-- a list is the only one with what a file says of it and its kept numbers
pub list-only : (a b : ProcessList) → file_list a ≡ file_list b → kept_numbers a ≡ kept_numbers b → a ≡ b
list-only a b e f = sym (list-split a) ∙ ap (keeping (kept_numbers a)) e ∙ ap (λ (ks : List ℕ). keeping ks (file_list b)) f ∙ list-split b
