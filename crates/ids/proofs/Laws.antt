-- Laws of ids. Assumes nothing.
use mathlib.Core.Path.{◌≡◌, refl, sym, ap, ◌∙◌}
use mathlib.Core.Bool.{Bool, true, false, cond, not, ◌&&◌}
use mathlib.Core.List.{List, [], ◌∷◌, ◌++◌}
use Prim.Native.Nat.{ℕ, zero, suc, ◌+◌, ◌-◌, ◌≤◌, ◌<◌}
use native.Mathlib.Omega.{arith}
use borrow.Author.Tests.{leb-true, leb-false, ltb-false, ne_eqb, eq-eqb}
use lib.Dec.{eqb, leb, eqb-suc-zero}
use lib.ListN.{length, take, drop, replicate, length-append, length-take, length-replicate}
use lib.Seq.{take_all}
use lib.Pointwise.{pointwise}
use Rattle.std.specs.List.{list_all, position, position_or_len}
use Rattle.std.specs.Option.{unwrap_or}
use Rattle.std.proofs.Common.{Some, None, min, ltb}
use Rattle.std.proofs.lemmas.List.{drop-replicate}
use Rattle.xml.specs.Bytes.{same, is_letter, is_digit, is_name_byte}
use Rattle.ids.specs.Ids.{is_id_byte, all_id_bytes, id_right, id_allowed, held_id, id_text, is_held}

nope : {A : Type 0} → ◌≡◌ {A = Bool} false true → A
nope {A} h = absurd (let z : ◌≡◌ {A = ℕ} 0 1 = ap (λ (b : Bool). cond b 1 0) h in omega arith)

-- ---- which texts are ids
pub colon : (b : ℕ) → b ≡ 58 → false ≡ is_id_byte b
unfolding is_id_byte is_letter is_digit
colon b e = rw e

pub name-byte : (b : ℕ) → (b ≡ 58 → ⊥) → is_name_byte b ≡ is_id_byte b
unfolding is_id_byte is_name_byte
name-byte b h = simp (ne_eqb b 58 h)

pub all-bytes : (t : List ℕ) → list_all is_id_byte t ≡ all_id_bytes t
unfolding all_id_bytes
all-bytes [] = refl
all-bytes (b ∷ t) = ap (λ (z : Bool). is_id_byte b && z) (all-bytes t)

module _ (most : ℕ) (t : List ℕ) where
  -- what a right id has
  pub right-length : id_right most t ≡ true → (1 ≤ length t) × (length t ≤ most)
  unfolding id_right
  right-length = go (leb 1 (length t)) (leb (length t) most) refl refl
    where
      go : (a b : Bool) → leb 1 (length t) ≡ a → leb (length t) most ≡ b → (a && b && all_id_bytes t) ≡ true → (1 ≤ length t) × (length t ≤ most)
      go true true ea eb h = (leb-true 1 (length t) ea, leb-true (length t) most eb)
      go true false ea eb h = nope h
      go false b ea eb h = nope h

  pub right-bytes : id_right most t ≡ true → all_id_bytes t ≡ true
  unfolding id_right
  right-bytes = go (leb 1 (length t)) (leb (length t) most)
    where
      go : (a b : Bool) → (a && b && all_id_bytes t) ≡ true → all_id_bytes t ≡ true
      go true true h = h
      go true false h = nope h
      go false b h = nope h

-- ---- an id in its places

pub held-length : (t : List ℕ) → length (held_id t) ≡ 32
unfolding held_id
held-length t = simp (length-append, length-take, length-replicate) (omega arith)

-- a text's first 32 bytes over zeros
pub held_is : (t xs : List ℕ) (n : ℕ) → n ≡ min (length t) 32 → xs ≡ take n t → xs ++ drop n (replicate 32 0) ≡ held_id t
unfolding held_id
held_is t xs n e f =
    let k : 32 - n ≡ 32 - length t = omega arith in
    let w : take n t ≡ take 32 t = short (leb (length t) 32) refl in
    rw (f, w, drop-replicate {X = ℕ} n 32 0, k) refl
  where
    short : (b : Bool) → leb (length t) 32 ≡ b → take n t ≡ take 32 t
    short true h =
        let l : length t ≤ 32 = leb-true _ _ h in
        take_all n t (omega arith) ∙ sym (take_all 32 t l)
    short false h =
        let l : 32 < length t = leb-false _ _ h in
        let m : n ≡ 32 = omega arith in
        ap (λ (i : ℕ). take i t) m

-- ---- the id that stands in places

-- it is the places' beginning
pub text-front : (t : List ℕ) → take (length (id_text t)) t ≡ id_text t
unfolding id_text
text-front [] = refl
text-front (b ∷ t) = go (eqb b 0) (text-front t)
  where
    go : (z : Bool) → take (length (id_text t)) t ≡ id_text t → take (length (cond z [] (b ∷ id_text t))) (b ∷ t) ≡ cond z [] (b ∷ id_text t)
    go true e = refl
    go false e = ap (λ (l : List ℕ). b ∷ l) e

-- as the code takes it: from the first place on, so many
pub text-part : (t : List ℕ) (n : ℕ) → n ≡ length (id_text t) → take (n - 0) t ≡ id_text t
text-part t n e =
    let z : n - 0 ≡ length (id_text t) = omega arith in
    ap (λ (k : ℕ). take k t) z ∙ text-front t

pub text-short : (t : List ℕ) → length (id_text t) ≤ length t
unfolding id_text
text-short [] = omega arith
text-short (b ∷ t) = go (eqb b 0) (text-short t)
  where
    go : (z : Bool) → length (id_text t) ≤ length t → length (cond z [] (b ∷ id_text t)) ≤ length (b ∷ t)
    go true e = omega arith
    go false e = omega arith

-- the index of the first zero, or, without one, the number of places
zero_at : (t : List ℕ) → position_or_len (λ b. eqb b 0) t ≡ length (id_text t)
unfolding id_text
zero_at [] = refl
zero_at (b ∷ t) = go (eqb b 0) (zero_at t)
  where
    go : (z : Bool) → position_or_len (λ b. eqb b 0) t ≡ length (id_text t) → cond (not z) (1 + position_or_len (λ b. eqb b 0) t) 0 ≡ length (cond z [] (b ∷ id_text t))
    go true e = refl
    go false e = omega arith

pub first_zero : (t : List ℕ) → unwrap_or (position (λ b. eqb b 0) t) (length t) ≡ length (id_text t)
first_zero t =
    rw (zero_at t) (go (ltb (length (id_text t)) (length t)) refl)
  where
    go : (z : Bool) → ltb (length (id_text t)) (length t) ≡ z → unwrap_or (cond z (Some (length (id_text t))) None) (length t) ≡ length (id_text t)
    go true e = refl
    go false e = let h = ltb-false _ _ e in omega (arith, text-short t)

pub allowed-none : (t : List ℕ) → length t ≡ 0 → true ≡ id_allowed t
unfolding id_allowed
allowed-none [] e = refl
allowed-none (b ∷ t) e = absurd (omega arith)

pub allowed-some : (t : List ℕ) → 1 ≤ length t → id_right 32 t ≡ id_allowed t
unfolding id_allowed
allowed-some [] h = absurd (omega arith)
allowed-some (b ∷ t) h = refl

pub allowed-few : (t : List ℕ) → id_allowed t ≡ true → length t ≤ 32
unfolding id_allowed
allowed-few [] h = omega arith
allowed-few (b ∷ t) h = (right-length 32 (b ∷ t) h).1

allowed-bytes : (t : List ℕ) → id_allowed t ≡ true → all_id_bytes t ≡ true
unfolding id_allowed all_id_bytes
allowed-bytes [] h = refl
allowed-bytes (b ∷ t) h = right-bytes 32 (b ∷ t) h

-- no byte of an id is 0
byte-not-zero : (b : ℕ) → is_id_byte b ≡ true → eqb b 0 ≡ false
unfolding is_id_byte is_letter is_digit
byte-not-zero zero h = nope h
byte-not-zero (suc b) h = eqb-suc-zero b

text-zeros : (k : ℕ) → id_text (replicate k 0) ≡ []
unfolding id_text
text-zeros zero = refl
text-zeros (suc k) = refl

text-back : (t : List ℕ) (k : ℕ) → all_id_bytes t ≡ true → id_text (t ++ replicate k 0) ≡ t
unfolding all_id_bytes id_text
text-back [] k h = text-zeros k
text-back (b ∷ t) k h = go (is_id_byte b) refl h (text-back t k)
  where
    go : (v : Bool) → is_id_byte b ≡ v → (v && all_id_bytes t) ≡ true → (all_id_bytes t ≡ true → id_text (t ++ replicate k 0) ≡ t) → id_text ((b ∷ t) ++ replicate k 0) ≡ b ∷ t
    go true e f g = rw (byte-not-zero b e, g f) refl
    go false e f g = nope f

-- an id comes back out of its places
pub text-held : (t : List ℕ) → id_allowed t ≡ true → id_text (held_id t) ≡ t
unfolding held_id
text-held t h = rw (take_all 32 t (allowed-few t h)) (text-back t (32 - length t) (allowed-bytes t h))

-- ---- nothing but zeros behind the id

abbrev pub zeros : List ℕ → Bool
zeros = list_all (λ b. eqb b 0)

zeros-same : (t : List ℕ) → same t (replicate (length t) 0) ≡ zeros t
unfolding same
zeros-same [] = refl
zeros-same (b ∷ t) = ap (λ (z : Bool). eqb b 0 && z) (zeros-same t)

eqb_refl : (b : ℕ) → eqb b b ≡ true
eqb_refl b = eq-eqb b b refl

held-zeros : (n : ℕ) (t : List ℕ) → length t ≡ n → same t (take n (id_text t) ++ replicate (n - length (id_text t)) 0) ≡ zeros (drop (length (id_text t)) t)
unfolding id_text same
held-zeros zero [] e = refl
held-zeros (suc n) [] e = absurd (omega arith)
held-zeros zero (b ∷ t) e = absurd (omega arith)
held-zeros (suc n) (b ∷ t) e = go (eqb b 0) refl (held-zeros n t)
  where
    few : length t ≡ n
    few = omega arith

    go : (z : Bool) → eqb b 0 ≡ z
        → (length t ≡ n → same t (take n (id_text t) ++ replicate (n - length (id_text t)) 0) ≡ zeros (drop (length (id_text t)) t))
        → same (b ∷ t) (take (suc n) (cond z [] (b ∷ id_text t)) ++ replicate (suc n - length (cond z [] (b ∷ id_text t))) 0) ≡ zeros (drop (length (cond z [] (b ∷ id_text t))) (b ∷ t))
    go true f g =
        let d : suc n - 0 ≡ suc n = omega arith in
        rw d (ap (λ (k : ℕ). eqb b 0 && same t (replicate k 0)) (sym few) ∙ ap (λ (z : Bool). eqb b 0 && z) (zeros-same t))
    go false f g =
        let d : suc n - suc (length (id_text t)) ≡ n - length (id_text t) = omega arith in
        rw (eqb_refl b, d) (g few)

pub held-is : (t : List ℕ) → length t ≡ 32 → zeros (drop (length (id_text t)) t) ≡ is_held t
unfolding is_held held_id
held-is t n = sym (held-zeros 32 t n)

-- ---- the same id
pub same-pointwise : (a b : List ℕ) → pointwise eqb a b ≡ same a b
unfolding same
same-pointwise [] [] = refl
same-pointwise [] (y ∷ b) = refl
same-pointwise (x ∷ a) [] = refl
same-pointwise (x ∷ a) (y ∷ b) = ap (λ (z : Bool). eqb x y && z) (same-pointwise a b)
