-- One node more: the list of the nodes, and their numbers. Assumes nothing.
use Rattle.process_list.specs.List.{Element, all_numbers}
use mathlib.Core.Path.{◌≡◌, refl, sym, ap, ◌∙◌}
use mathlib.Core.List.{List, [], ◌∷◌, ◌++◌, append_assoc, append-nil, map}
use Prim.Native.Nat.{ℕ, suc, ◌+◌}
use lib.ListN.{length, length-append}
use Rattle.decimal.specs.declared.Decimal.{Decimal}
use Rattle.process_list.specs.List as Lists
use Rattle.process_list.proofs.Laws.{capped-add, total-append, total-one}
use Rattle.process_list.proofs.Lists.{list-more}
use Rattle.file_text.specs.Code.{bare, Counted}

map_more : {A B : Type 0} (f : A → B) (l m : List A) → map f (l ++ m) ≡ map f l ++ map f m
map_more f [] m = refl
map_more {A} {B} f (x ∷ l) m = ap (λ (k : List B). f x ∷ k) (map_more f l m)

pub bare-more : (l m : List Element) → bare (l ++ m) ≡ bare l ++ bare m
bare-more l m = map_more Lists.node_of l m

pub bare-length : (l : List Element) → length (bare l) ≡ length l
bare-length [] = refl
bare-length (n ∷ l) = ap suc (bare-length l)

pub numbers_more : (l m : List Element) → all_numbers (l ++ m) ≡ all_numbers l ++ all_numbers m
unfolding all_numbers
numbers_more [] m = refl
numbers_more (n ∷ l) m = ap (λ (k : List Decimal). n.numbers ++ k) (numbers_more l m) ∙ sym (append_assoc n.numbers (all_numbers l) (all_numbers m))

pub numbers-one : (v : Element) → all_numbers (v ∷ []) ≡ v.numbers
unfolding all_numbers
numbers-one v = append-nil v.numbers

-- the list of the nodes, and one more
pub list-one : (l : List Element) (v : Element) → Lists.appended (Lists.list_of (bare l)) (Lists.node_of v) ≡ Lists.list_of (bare (l ++ v ∷ []))
list-one l v = list-more l v

pub total-more : (l : List Element) (v : Element) → Lists.total (bare (l ++ v ∷ [])) ≡ Lists.total (bare l) + Lists.numbers_of v.kind
unfolding Lists.node_of Lists.unplaced
total-more l v =
    ap Lists.total (bare-more l (v ∷ [])) ∙ total-append (bare l) (bare (v ∷ []))
    ∙ ap (λ (n : ℕ). Lists.total (bare l) + n) (total-one (Lists.node_of v))

-- how many numbers, counted no further than one more than may be
pub used-one : (l : List Element) (v : Element)
    → Lists.capped (Lists.capped (Lists.total (bare l)) + Lists.numbers_of (Lists.node_of v).kind) ≡ Lists.capped (Lists.total (bare (l ++ v ∷ [])))
unfolding Lists.node_of Lists.unplaced
used-one l v = capped-add (Lists.total (bare l)) (Lists.numbers_of v.kind) ∙ ap Lists.capped (sym (total-more l v))

-- as many numbers as the kinds of both ask for
pub counted-both : (l m : List Element) → Counted l → Counted m → Counted (l ++ m)
counted-both l m h k =
    ap length (numbers_more l m) ∙ length-append (all_numbers l) (all_numbers m)
    ∙ ap (λ (n : ℕ). n + length (all_numbers m)) h ∙ ap (λ (n : ℕ). Lists.total (bare l) + n) k
    ∙ sym (ap Lists.total (bare-more l m) ∙ total-append (bare l) (bare m))

pub counted-one : (v : Element) → length v.numbers ≡ Lists.numbers_of v.kind → Counted (v ∷ [])
unfolding Lists.node_of Lists.unplaced
counted-one v h = ap length (numbers-one v) ∙ h ∙ sym (total-one (Lists.node_of v))

pub counted_none : Counted []
unfolding all_numbers Lists.total
counted_none = refl
