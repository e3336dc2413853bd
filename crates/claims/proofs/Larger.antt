-- 13 comes last, of replacing as of reading: what a call answers for any room, by what it answers for the most numbers that a list may have. Assumes nothing.
use mathlib.Core.Path.{◌≡◌, refl, ap, ◌∙◌}
use mathlib.Core.Bool.{Bool, true, false, cond}
use mathlib.Core.List.{List, [], ◌∷◌, map}
use Prim.Native.Nat.{ℕ, ◌-◌, min}
use lib.Dec.{ltb}
use lib.ListN.{length, set}
use Rattle.process_list.specs.declared.Unfit.TheVariants.{TooManyNumbers}
use Rattle.std.proofs.Common.{Ok, Err}
use Rattle.process_list.specs.List.{Verdict, Element, most_numbers, node_of, total, judged, verdict}
use Rattle.process_list.proofs.RoomLast.{in_room, room-last}
use Rattle.grammar.specs.Parse.{Out, done, fault, cut}
use Rattle.clf.specs.Reading.{most_bytes, is_numbered}
use Rattle.look.specs.Replacing.{element, Replacing, replaced, refused, listed, by_element, replace}
use Rattle.look.specs.Replacing as Replacing

-- how many numbers a list of elements has, by its kinds
abbrev pub counted : List Element → ℕ
counted es = total (map node_of es)

-- ---- replacing by the list alone

abbrev pub replace_as : ℕ → Replacing → Replacing
replace_as room (replaced es) = cond (ltb (min room most_numbers) (counted es)) (refused 13 0) (replaced es)
replace_as room (refused n p) = refused n p

listed-last : (room : ℕ) (es : List Element) → listed room es ≡ replace_as room (listed most_numbers es)
unfolding listed verdict
listed-last room es = ap (Replacing.replacing_by es) (room-last room (map node_of es)) ∙ go (judged most_numbers (map node_of es))
  where
    by : (b : Bool) → Replacing.replacing_by es (cond b (Err TooManyNumbers) (Ok tt)) ≡ cond b (refused 13 0) (replaced es)
    by true = refl
    by false = refl

    go : (v : Verdict) → Replacing.replacing_by es (in_room room (counted es) v) ≡ replace_as room (Replacing.replacing_by es v)
    go (Ok u) = by (ltb (min room most_numbers) (counted es))
    go (Err why) = refl

-- 13 COMES LAST, of replacing
pub replace-last : (room : ℕ) (es : List Element) (k : ℕ) (e : List ℕ) → replace room es k e ≡ replace_as room (replace most_numbers es k e)
unfolding replace
replace-last room es k e = go (is_numbered k (length es)) (ltb most_bytes (length e))
  where
    by : (o : Out Element) → by_element room es k e o ≡ replace_as room (by_element most_numbers es k e o)
    by (done n []) = listed-last room (set es (k - 1) n)
    by (done n (b ∷ r)) = refl
    by (fault j r) = refl
    by cut = refl

    go : (a b : Bool) → cond a (cond b (refused 4 0) (by_element room es k e (element.run e))) (refused 19 0)
        ≡ replace_as room (cond a (cond b (refused 4 0) (by_element most_numbers es k e (element.run e))) (refused 19 0))
    go true true = refl
    go true false = by (element.run e)
    go false b = refl
