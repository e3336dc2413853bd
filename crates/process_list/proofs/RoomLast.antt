-- 13 comes last: what is judged over a finished list for any room, by what is judged for the most numbers that a list may have. Assumes nothing.
use mathlib.Core.Path.{◌≡◌, refl, sym, ◌∙◌}
use mathlib.Core.Bool.{Bool, true, false, cond}
use mathlib.Core.List.{List}
use Prim.Native.Nat.{ℕ, ◌≤◌, ◌<◌, min}
use native.Mathlib.Omega.{arith}
use borrow.Author.Tests.{ltb-true, lt-ltb, le-ltb}
use lib.Dec.{eqb, ltb}
use lib.ListN.{length}
use Rattle.process_list.specs.declared.Node.{Node}
use Rattle.std.proofs.Common.{Ok, Err}
use Rattle.process_list.specs.declared.Unfit.TheVariants.{TooManyNodes, NoNode, DepthDiffers, IdSeen, TooManyNumbers}
use Rattle.process_list.specs.List.{most_nodes, most_numbers, total, first_differs, first_repeat, judged, Verdict}

-- a verdict for the most numbers, with 13 where the room holds fewer than n
abbrev pub in_room : ℕ → ℕ → Verdict → Verdict
in_room room n (Ok u) = cond (ltb (min room most_numbers) n) (Err TooManyNumbers) (Ok u)
in_room room n (Err e) = Err e

last_of : (room n : ℕ) (b : Bool) → ltb (min most_numbers most_numbers) n ≡ b → ◌≡◌ {A = Verdict} (cond (ltb (min room most_numbers) n) (Err TooManyNumbers) (Ok tt)) (in_room room n (cond b (Err TooManyNumbers) (Ok tt)))
last_of room n true e =
    let h : min most_numbers most_numbers < n = ltb-true (min most_numbers most_numbers) n e in
    rw (lt-ltb (min room most_numbers) n (omega arith)) refl
last_of room n false e = refl

-- 13 COMES LAST
pub room-last : (room : ℕ) (ns : List Node) → judged room ns ≡ in_room room (total ns) (judged most_numbers ns)
unfolding judged
room-last room ns = go (eqb (length ns) 0) (ltb most_nodes (length ns)) (ltb 0 (first_differs ns)) (ltb 0 (first_repeat ns))
  where
    rest : ℕ → Verdict
    rest r = cond (ltb (min r most_numbers) (total ns)) (Err TooManyNumbers) (Ok tt)

    go : (a b c i : Bool) → cond a (Err NoNode) (cond b (Err TooManyNodes) (cond c (Err (DepthDiffers (first_differs ns))) (cond i (Err (IdSeen (first_repeat ns))) (rest room))))
        ≡ in_room room (total ns) (cond a (Err NoNode) (cond b (Err TooManyNodes) (cond c (Err (DepthDiffers (first_differs ns))) (cond i (Err (IdSeen (first_repeat ns))) (rest most_numbers)))))
    go true b c i = refl
    go false true c i = refl
    go false false true i = refl
    go false false false true = refl
    go false false false false = last_of room (total ns) (ltb (min most_numbers most_numbers) (total ns)) refl

-- what is accepted is accepted in every room that holds its numbers
pub room-enough : (room other : ℕ) (ns : List Node) → judged room ns ≡ Ok tt → total ns ≤ min other most_numbers → judged other ns ≡ Ok tt
room-enough room other ns e h = room-last other ns ∙ go (judged most_numbers ns) (sym (room-last room ns) ∙ e)
  where
    go : (v : Verdict) → in_room room (total ns) v ≡ Ok tt → in_room other (total ns) v ≡ Ok tt
    go (Ok u) z = rw (le-ltb (min other most_numbers) (total ns) h) refl
    go (Err e) z = z
