-- The room while node after node is read. What stands behind the largest count of numbers is never described: it is cleared in the end. Assumes nothing.
use Rattle.process_list.specs.List.{Element, all_numbers}
use mathlib.Core.Path.{◌≡◌, refl, sym, ap, ◌∙◌, subst}
use mathlib.Core.Bool.{Bool, true, false, cond}
use mathlib.Core.List.{List, [], ◌∷◌, ◌++◌}
use Prim.Native.Nat.{ℕ, ◌+◌, ◌-◌, ◌≤◌, ◌<◌, min}
use native.Mathlib.Omega.{arith}
use lib.Dec.{ltb, leb}
use lib.IntN.{pos}
use lib.ListN.{length, take, drop, set, length-take, take-append-drop}
use lib.Seq.{take-take, take-set-le, take-set-lt}
use borrow.Author.Tests.{leb-true, leb-false}
use Rattle.decimal.specs.declared.Decimal.{Decimal}
use Rattle.process_list.specs.List as Lists
use Rattle.process_list.proofs.Laws.{capped-exact}
use Rattle.room.specs.Room.{Room, room_length, stored, laid, cleared, zeroed, laid_in, cleared_in, cleared_from, filled_with, coefficient_parts, power_parts}
use Rattle.room.proofs.Contents.{SliceFrom, laid-length, laid-behind}
use Rattle.room.proofs.Rooms.{RoomFrom, same-room, from-room, from-refl, from-trans, from-laid, cleared-same, laid-nothing, laid-room, laid_both, laid_filled}
use Rattle.file_text.specs.Code.{bare, fitting_numbers, Counted, Holds}
use Rattle.file_text.proofs.Nodes.{numbers_more}

-- ---- slices that are the same before an index

module _ {A : Type 0} where
  slice-sym : (n base : ℕ) (s t : List A) → SliceFrom n base s t → SliceFrom n base t s
  slice-sym n base s t f = record { size = sym f.size; front = sym f.front; behind = sym f.behind }

  slice-less : (n a b : ℕ) (s t : List A) → b ≤ a → SliceFrom n a s t → SliceFrom n b s t
  slice-less n a b s t h f = record {
    size = f.size;
    front = sym (take-take b a t h) ∙ ap (take b) f.front ∙ take-take b a s h;
    behind = f.behind;
  }

  set_front : (base at : ℕ) (a : A) (s t : List A) → take base t ≡ take base s → take base (set t at a) ≡ take base (set s at a)
  set_front base at a s t e = by (leb base at) refl
    where
      by : (b : Bool) → leb base at ≡ b → take base (set t at a) ≡ take base (set s at a)
      by true q = let h : base ≤ at = leb-true base at q in take-set-le base t at a h ∙ e ∙ sym (take-set-le base s at a h)
      by false q = let h : at < base = leb-false base at q in take-set-lt base t at a h ∙ ap (λ (l : List A). set l at a) e ∙ sym (take-set-lt base s at a h)

  laid-front : (n base at : ℕ) (xs s t : List A) → take base t ≡ take base s → take base (laid n at xs t) ≡ take base (laid n at xs s)
  unfolding laid stored
  laid-front n base at [] s t e = e
  laid-front n base at (x ∷ xs) s t e = laid-front n base (at + 1) xs (cond (ltb at n) (set s at x) s) (cond (ltb at n) (set t at x) t) (by (ltb at n))
    where
      by : (b : Bool) → take base (cond b (set t at x) t) ≡ take base (cond b (set s at x) s)
      by true = set_front base at x s t e
      by false = e

  -- the same numbers laid in both
  slice-both : (n base at : ℕ) (xs s t : List A) → SliceFrom n base s t → SliceFrom n base (laid n at xs s) (laid n at xs t)
  slice-both n base at xs s t f = record {
    size = laid-length n at xs t ∙ f.size ∙ sym (laid-length n at xs s);
    front = laid-front n base at xs s t f.front;
    behind = laid-behind n at xs t ∙ f.behind ∙ sym (laid-behind n at xs s);
  }

-- ---- a count of numbers, as the code keeps it

capped-over : (n : ℕ) → Lists.most_numbers < n → Lists.most_numbers ≤ Lists.capped n
unfolding Lists.capped
capped-over n h = omega arith

capped-least : (n : ℕ) → min n Lists.most_numbers ≤ Lists.capped n
unfolding Lists.capped
capped-least n = omega arith

capped-min : (n : ℕ) → min (Lists.capped n) Lists.most_numbers ≡ min n Lists.most_numbers
unfolding Lists.capped
capped-min n = omega arith

-- ---- rooms

from-sym : (base : ℕ) (m₀ m₁ : Room) → RoomFrom base m₀ m₁ → RoomFrom base m₁ m₀
from-sym base m₀ m₁ f =
    let n : room_length m₁ ≡ room_length m₀ = from-room base m₀ m₁ f in
    record { coefficients = rw n (slice-sym _ base _ _ f.coefficients); powers = rw n (slice-sym _ base _ _ f.powers) }

pub from_less : (a b : ℕ) (m₀ m₁ : Room) → b ≤ a → RoomFrom a m₀ m₁ → RoomFrom b m₀ m₁
from_less a b m₀ m₁ h f = record { coefficients = slice-less _ a b _ _ h f.coefficients; powers = slice-less _ a b _ _ h f.powers }

from-both : (base at : ℕ) (xs : List Decimal) (m₀ m₁ : Room) → RoomFrom base m₀ m₁ → RoomFrom base (laid_in at xs m₀) (laid_in at xs m₁)
unfolding laid_in
from-both base at xs m₀ m₁ f =
    let n : room_length m₁ ≡ room_length m₀ = from-room base m₀ m₁ f in
    let k : room_length (laid_in at xs m₀) ≡ room_length m₀ = laid-room at xs m₀ in
    record {
      coefficients = rw (k, n) (slice-both _ base at (coefficient_parts xs) _ _ f.coefficients);
      powers = rw (k, n) (slice-both _ base at (power_parts xs) _ _ f.powers);
    }

-- clearing from behind the room's end on, or from its end on, is the same
cleared-end : (at : ℕ) (m : Room) → cleared_from at m ≡ cleared_from (min at (room_length m)) m
unfolding cleared_in cleared
cleared-end at m =
    let n : ℕ = room_length m in
    let e : min at (min n n) ≡ min (min at n) (min n n) = omega arith in
    same-room (ap (λ (k : ℕ). zeroed (pos 0) k (min n n) m.coefficients) e) (ap (λ (k : ℕ). zeroed (pos 0) k (min n n) m.powers) e)

-- numbers laid from the first place on, as many as fit and k at most, and the rest cleared
fit-cleared : (k : ℕ) (xs : List Decimal) (m : Room) → cleared_from (min (length xs) k) (laid_in 0 xs m) ≡ filled_with (take (min (room_length m) k) xs) m
fit-cleared k xs m =
    let n : ℕ = room_length m in
    let ys : List Decimal = take (min n k) xs in
    let zs : List Decimal = drop (min n k) xs in
    let l : length ys ≡ min (min n k) (length xs) = length-take (min n k) xs in
    let r : room_length (laid_in 0 xs m) ≡ n = laid-room 0 xs m in
    let b : laid_in 0 xs m ≡ laid_in (0 + length ys) zs (laid_in 0 ys m) =
    ap (λ (l : List Decimal). laid_in 0 l m) (sym (take-append-drop (min n k) xs)) ∙ laid_both 0 ys zs m in
    let f : RoomFrom (length ys) (laid_in 0 ys m) (laid_in 0 xs m) =
    subst (λ (x : Room). RoomFrom (length ys) (laid_in 0 ys m) x) (sym b) (from-laid (length ys) (0 + length ys) zs (laid_in 0 ys m) (omega arith)) in
    let e : min (min (length xs) k) (room_length (laid_in 0 xs m)) ≡ length ys = omega arith in
    cleared-end (min (length xs) k) (laid_in 0 xs m) ∙ ap (λ (a : ℕ). cleared_from a (laid_in 0 xs m)) e
    ∙ cleared-same (length ys) (laid_in 0 ys m) (laid_in 0 xs m) f ∙ laid_filled ys m (omega arith)

-- ---- the numbers of nodes

-- before any node
pub holds-none : (m : Room) → RoomFrom Lists.most_numbers (laid_in 0 (all_numbers []) m) m
unfolding all_numbers
holds-none m = subst (λ (x : Room). RoomFrom Lists.most_numbers x m) (sym (laid-nothing 0 m)) (from-refl Lists.most_numbers m)

-- numbers laid behind those of the nodes, where `used` says they end
behind-by : (xs ys : List Decimal) (u : ℕ) (m₀ m₁ : Room) → u ≡ Lists.capped (length xs) → RoomFrom Lists.most_numbers (laid_in 0 xs m₀) m₁
    → RoomFrom Lists.most_numbers (laid_in 0 (xs ++ ys) m₀) (laid_in u ys m₁)
behind-by xs ys u m₀ m₁ e f = by (leb (length xs) Lists.most_numbers) refl
  where
    grown : laid_in 0 (xs ++ ys) m₀ ≡ laid_in (0 + length xs) ys (laid_in 0 xs m₀)
    grown = laid_both 0 xs ys m₀

    by : (b : Bool) → leb (length xs) Lists.most_numbers ≡ b → RoomFrom Lists.most_numbers (laid_in 0 (xs ++ ys) m₀) (laid_in u ys m₁)
    by true q =
        let h : length xs ≤ Lists.most_numbers = leb-true (length xs) Lists.most_numbers q in
        let i : 0 + length xs ≡ u = omega (arith, e ∙ capped-exact (length xs) h) in
        subst (λ (x : Room). RoomFrom Lists.most_numbers x (laid_in u ys m₁)) (sym (grown ∙ ap (λ (k : ℕ). laid_in k ys (laid_in 0 xs m₀)) i))
        (from-both Lists.most_numbers u ys (laid_in 0 xs m₀) m₁ f)
    by false q =
        let h : Lists.most_numbers < length xs = leb-false (length xs) Lists.most_numbers q in
        let i : Lists.most_numbers ≤ u = over h in
        subst (λ (x : Room). RoomFrom Lists.most_numbers x (laid_in u ys m₁)) (sym grown)
        (from-trans Lists.most_numbers (laid_in (0 + length xs) ys (laid_in 0 xs m₀)) (laid_in 0 xs m₀) (laid_in u ys m₁)
        (from-sym Lists.most_numbers _ _ (from-laid Lists.most_numbers (0 + length xs) ys (laid_in 0 xs m₀) (omega arith)))
        (from-trans Lists.most_numbers (laid_in 0 xs m₀) m₁ (laid_in u ys m₁) f (from-laid Lists.most_numbers u ys m₁ i)))
      where
        over : Lists.most_numbers < length xs → Lists.most_numbers ≤ u
        over h = omega (arith, capped-over (length xs) h)

-- one node more, or none
pub holds_more : (l more : List Element) (u : ℕ) (m₀ m₁ : Room) → Counted l → u ≡ Lists.capped (Lists.total (bare l))
    → RoomFrom Lists.most_numbers (laid_in 0 (all_numbers l) m₀) m₁
    → RoomFrom Lists.most_numbers (laid_in 0 (all_numbers (l ++ more)) m₀) (laid_in u (all_numbers more) m₁)
holds_more l more u m₀ m₁ k e f =
    subst (λ (xs : List Decimal). RoomFrom Lists.most_numbers (laid_in 0 xs m₀) (laid_in u (all_numbers more) m₁)) (sym (numbers_more l more))
    (behind-by (all_numbers l) (all_numbers more) u m₀ m₁ (e ∙ ap Lists.capped (sym k)) f)

-- a node that does not stand whole has changed the room from `used` on alone
pub holds-failed : (l : List Element) (u : ℕ) (m₀ m₁ m₂ : Room) → u ≡ Lists.capped (Lists.total (bare l))
    → RoomFrom Lists.most_numbers (laid_in 0 (all_numbers l) m₀) m₁ → RoomFrom u m₁ m₂ → Holds l m₀ m₂
holds-failed l u m₀ m₁ m₂ e f g =
    let t : ℕ = Lists.total (bare l) in
    let h : min t Lists.most_numbers ≤ u = rw e (capped-least t) in
    from-trans (min t Lists.most_numbers) (laid_in 0 (all_numbers l) m₀) m₁ m₂ (from_less Lists.most_numbers (min t Lists.most_numbers) _ _ (omega arith) f) (from_less u (min t Lists.most_numbers) _ _ h g)

pub holds-whole : (l : List Element) (m₀ m₁ : Room) → RoomFrom Lists.most_numbers (laid_in 0 (all_numbers l) m₀) m₁ → Holds l m₀ m₁
holds-whole l m₀ m₁ f = from_less Lists.most_numbers (min (Lists.total (bare l)) Lists.most_numbers) _ _ (omega arith) f

-- the rest cleared: the room holds the numbers that fit, and zeros
pub holds-cleared : (l : List Element) (u : ℕ) (m₀ m₁ : Room) → Counted l → u ≡ Lists.capped (Lists.total (bare l)) → Holds l m₀ m₁
    → cleared_from (min u Lists.most_numbers) m₁ ≡ filled_with (fitting_numbers (room_length m₀) (all_numbers l)) m₀
holds-cleared l u m₀ m₁ k e f =
    let t : ℕ = Lists.total (bare l) in
    let a : min u Lists.most_numbers ≡ min t Lists.most_numbers = rw e (capped-min t) in
    let b : min t Lists.most_numbers ≡ min (length (all_numbers l)) Lists.most_numbers = ap (λ (n : ℕ). min n Lists.most_numbers) (sym k) in
    ap (λ (n : ℕ). cleared_from n m₁) a ∙ cleared-same (min t Lists.most_numbers) (laid_in 0 (all_numbers l) m₀) m₁ f
    ∙ ap (λ (n : ℕ). cleared_from n (laid_in 0 (all_numbers l) m₀)) b ∙ fit-cleared Lists.most_numbers (all_numbers l) m₀

-- the slices keep their lengths
pub holds-size : (l : List Element) (m₀ m₁ : Room) → Holds l m₀ m₁ → RoomFrom 0 m₀ m₁
holds-size l m₀ m₁ f =
    from-trans 0 m₀ (laid_in 0 (all_numbers l) m₀) m₁ (from-laid 0 0 (all_numbers l) m₀ (omega arith)) (from_less (min (Lists.total (bare l)) Lists.most_numbers) 0 _ _ (omega arith) f)
