-- Laws of text put piece by piece: one byte, and pieces one after the other. Assumes nothing.
use mathlib.Core.Path.{◌≡◌, refl, sym, ap, ◌∙◌}
use mathlib.Core.List.{List, [], ◌∷◌, ◌++◌, append_assoc, append-nil}
use Prim.Native.Nat.{ℕ, zero, suc, ◌+◌, ◌-◌, ◌^◌, ◌≤◌, ◌<◌, ◌/◌, ◌%◌}
use native.Mathlib.Omega.{arith}
use native.Mathlib.Numerals.{add-one}
use native.Mathlib.Nat.{add-zero, zero-add}
use lib.ListN.{length, set, drop, get_or, replicate, length-set, length-replicate}
use lib.Seq.{drop-cons, drop-length}
use lib.IntN.{ℤ}
use Rattle.decimal.specs.Decimal.{size}
use Rattle.decimal_write.specs.Written.{digits, whole_text}
use Rattle.decimal_write.specs.Laws.{digits-one, digits_more}
use Rattle.room.specs.Room.{laid}
use Rattle.room.proofs.Laws.{stored-in, stored-out}
use Rattle.room.proofs.Contents.{laid_none, laid-fits}
use Rattle.text_out.specs.Output.{counted, Goes, Puts}

-- an index that a usize holds is counted as it is
pub counted-in : (n : ℕ) → n < 2 ^ 64 → counted n ≡ n
unfolding counted
counted-in n h = omega arith

-- ---- pieces one after the other

-- nothing has been put yet
pub goes-start : (f : List ℕ → List ℕ) (at : ℕ) (s : List ℕ) → Goes f f at s s at
goes-start f at s = record { bytes = λ t. refl; next = λ t. refl; size = refl }

-- of what is left, h has been put, and k is left
pub goes_then : {f g h k : List ℕ → List ℕ} {at a r : ℕ} {s s1 s2 : List ℕ} → Goes f g at s s1 a → ((t : List ℕ) → g t ≡ h (k t)) → Puts h a s1 s2 r → Goes f k at s s2 r
goes_then {k = k} {at = at} {a = a} {r = r} {s = s} {s1 = s1} {s2 = s2} p e q = record {
  bytes = λ t. p.bytes t ∙ ap (λ (x : List ℕ). laid (length s) a x s1) (e t) ∙ (rw p.size at (q.bytes (k t)));
  next = λ t. p.next t ∙ ap (λ (x : List ℕ). counted (a + length x)) (e t) ∙ q.next (k t);
  size = q.size ∙ p.size;
}

-- nothing is left
pub goes_end : {f g : List ℕ → List ℕ} {at r : ℕ} {s s' : List ℕ} → Goes f g at s s' r → ((t : List ℕ) → g t ≡ t) → Puts f at s s' r
goes_end {r = r} {s = s} {s' = s'} p e = record {
  bytes = λ t. p.bytes t ∙ ap (λ (x : List ℕ). laid (length s) r x s') (e t);
  next = λ t. p.next t ∙ ap (λ (x : List ℕ). counted (r + length x)) (e t);
  size = p.size;
}

-- a piece without bytes
pub puts_none : {f : List ℕ → List ℕ} {at : ℕ} {s : List ℕ} → ((t : List ℕ) → f t ≡ t) → Puts f at s s at
puts_none {f = f} {at = at} {s = s} e = goes_end (goes-start f at s) e

-- the same piece, said in another way
pub puts-as : {f g : List ℕ → List ℕ} {at r : ℕ} {s s' : List ℕ} → ((t : List ℕ) → g t ≡ f t) → Puts f at s s' r → Puts g at s s' r
puts-as {at = at} {s = s} e p = record {
  bytes = λ t. ap (λ (x : List ℕ). laid (length s) at x s) (e t) ∙ p.bytes t;
  next = λ t. ap (λ (x : List ℕ). counted (at + length x)) (e t) ∙ p.next t;
  size = p.size;
}

-- the text of a case that a match found
pub puts-by : {A : Type 0} (f : A → List ℕ → List ℕ) {x y : A} {at r : ℕ} {s s' : List ℕ} → x ≡ y → Puts (f y) at s s' r → Puts (f x) at s s' r
puts-by f e p = puts-as (λ t. ap (λ a. f a t) e) p

pub puts_then : {f g : List ℕ → List ℕ} {at a r : ℕ} {s s1 s2 : List ℕ} → Puts f at s s1 a → Puts g a s1 s2 r → Puts (λ t. f (g t)) at s s2 r
puts_then {g = g} p q = record {
  bytes = λ t. p.bytes (g t) ∙ (rw p.size at (q.bytes t));
  next = λ t. p.next (g t) ∙ q.next t;
  size = q.size ∙ p.size;
}

-- what has been put, in plain words: the piece stands from `at` on, as far as the output goes, and r is the index behind it
pub puts-is : {f : List ℕ → List ℕ} {at r : ℕ} {s s' : List ℕ} → Puts f at s s' r → r < 2 ^ 64 → (s' ≡ laid (length s) at (f []) s) × (r ≡ counted (at + length (f [])))
puts-is {r = r} {s = s} {s' = s'} p h = (
  sym (p.bytes [] ∙ laid_none (length s) r s'),
  sym (p.next [] ∙ ap counted (add-zero r) ∙ counted-in r h),
)

drop-zeros : (n k : ℕ) → drop {A = ℕ} k (replicate n 0) ≡ replicate (n - k) 0
drop-zeros n zero = let e : n - zero ≡ n = omega arith in rw e
drop-zeros zero (suc k) = let e : zero - suc k ≡ zero = omega arith in rw e
drop-zeros (suc n) (suc k) = let e : suc n - suc k ≡ n - k = omega arith in rw e (drop-zeros n k)

-- a text that has been put into n zeros, and fits: it stands in front of zeros
pub puts-zeros : {s : List ℕ} {r : ℕ} (n : ℕ) (x : List ℕ) → length x ≤ n → n < 2 ^ 64 → r < 2 ^ 64 → Puts (λ t. x ++ t) 0 (replicate n 0) s r
    → (s ≡ x ++ replicate (n - length x) 0) × (r ≡ length x)
puts-zeros n x h m k p =
    let w = puts-is p k in
    let z : length {A = ℕ} (replicate n 0) ≡ n = length-replicate n 0 in (
      w.0 ∙ (rw (append-nil, z) (laid-fits n 0 x (replicate n 0) (omega arith) (omega arith) ∙ (rw (zero-add, drop-zeros)))),
      w.1 ∙ (rw (append-nil, zero-add) (counted-in (length x) (omega arith))),
    )

-- ---- one byte

-- beyond the output nothing changes
beyond : (n at : ℕ) (t s : List ℕ) → n ≤ at → laid n at t s ≡ s
unfolding laid
beyond n at [] s h = refl
beyond n at (b ∷ t) s h = ap (laid n (at + 1) t) (sym (stored-out n at s b h)) ∙ beyond n (at + 1) t s (omega arith)

-- two counts in a row are one
counted-both : (at k : ℕ) → at < 2 ^ 64 → counted (at + suc k) ≡ counted (counted (at + 1) + k)
unfolding counted
counted-both at k h = omega arith

pub byte-in : (s : List ℕ) (at b r : ℕ) → at < length s → length s < 2 ^ 64 → r ≡ counted (at + 1) → Puts (λ t. b ∷ t) at s (set s at b) r
unfolding laid
byte-in s at b r h m e = record {
  bytes = λ t. ap (laid (length s) (at + 1) t) (sym (stored-in (length s) at s b b h refl)) ∙ (rw (e, counted-in (at + 1) (omega arith)));
  next = λ t. rw e (counted-both at (length t) (omega arith));
  size = length-set s at b;
}

pub byte-out : (s : List ℕ) (at b r : ℕ) → length s ≤ at → at < 2 ^ 64 → r ≡ counted (at + 1) → Puts (λ t. b ∷ t) at s s r
unfolding counted
byte-out s at b r h m e = record {
  bytes = λ t. beyond (length s) at (b ∷ t) s h ∙ sym (beyond (length s) r t s (omega arith));
  next = λ t. rw e (counted-both at (length t) m);
  size = refl;
}

-- ---- the bytes of a text
pub text-more : (w : List ℕ) (i : ℕ) → i < length w → (t : List ℕ) → drop i w ++ t ≡ get_or w i 0 ∷ (drop (i + 1) w ++ t)
text-more w i h t = rw (add-one, drop-cons w i 0)

pub text-whole : (w : List ℕ) (i : ℕ) → length w ≤ i → i ≤ length w → (t : List ℕ) → drop i w ++ t ≡ t
text-whole w i h k t = let e : i ≡ length w = omega arith in rw (e, drop-length)

-- ---- digits
pub puts-digit : {at r : ℕ} {s s' : List ℕ} (n : ℕ) → n < 10 → Puts (λ t. (48 + n) ∷ t) at s s' r → Puts (λ t. digits n ++ t) at s s' r
puts-digit n h p = puts-as (λ t. rw (digits-one n h)) p

pub puts-last : {at a r : ℕ} {s s1 s2 : List ℕ} (n : ℕ) → 10 ≤ n → Puts (λ t. digits (n / 10) ++ t) at s s1 a → Puts (λ t. (48 + n % 10) ∷ t) a s1 s2 r → Puts (λ t. digits n ++ t) at s s2 r
puts-last n h p q = puts-as (λ t. rw (digits_more n h, append_assoc)) (puts_then p q)

-- ---- a whole number, by its sign
pub puts-negative : {at a r : ℕ} {s s1 s2 : List ℕ} (z : ℤ) (k : ℕ) → whole_text z ≡ 45 ∷ digits (size z) → k ≡ size z
    → Puts (λ t. 45 ∷ t) at s s1 a → Puts (λ t. digits k ++ t) a s1 s2 r → Puts (λ t. whole_text z ++ t) at s s2 r
puts-negative z k e q p1 p2 = puts-as (λ t. rw (e, ← q)) (puts_then p1 p2)

pub puts-other : {at r : ℕ} {s s' : List ℕ} (z : ℤ) (k : ℕ) → whole_text z ≡ digits (size z) → k ≡ size z → Puts (λ t. digits k ++ t) at s s' r → Puts (λ t. whole_text z ++ t) at s s' r
puts-other z k e q p = puts-as (λ t. rw (e, ← q)) p
