-- Bytes read behind others in a buffer. Assumes nothing.
use mathlib.Core.Path.{◌≡◌, ap, ◌∙◌}
use mathlib.Core.List.{List, ◌++◌}
use Prim.Native.Nat.{ℕ, ◌+◌, ◌≤◌}
use native.Mathlib.Omega.{arith}
use lib.ListN.{length, take}
use lib.Seq.{take-append-add, length-take-le}
use borrow.Rule.Slice.PartMut.{put_mid, post_of}
use Rattle.std.specs.Prelude.{Option}
use Rattle.std.specs.Io.KnownBytes.{Consumes}
use Rattle.std.proofs.KnownBytes.{Consumes-trans}
use Rattle.std.proofs.lemmas.List.{take-append-le}

-- the first h bytes of s, and n of those that were put behind them
put-in : (s x : List ℕ) (h k n m : ℕ) → h ≤ length s → n ≤ length x → m ≡ h + n → take m (put_mid h k s x) ≡ take h s ++ take n x
put-in s x h k n m p q e =
    let l : m ≡ length (take h s) + n = omega (arith, length-take-le h s p) in
    ap (λ (i : ℕ). take i (put_mid h k s x)) l ∙ take-append-add (take h s) (x ++ post_of h k s) n ∙ ap (λ (y : List ℕ). take h s ++ y) (take-append-le n x (post_of h k s) q)

-- a are the known bytes at first, b those before one more read, which brought n bytes, and c those behind it
pub consumes-more : (a b c : Option (List ℕ)) (s x : List ℕ) (h k n m : ℕ) → h ≤ length s → n ≤ length x → m ≡ h + n
    → Consumes a b (take h s) → Consumes b c (take n x) → Consumes a c (take m (put_mid h k s x))
consumes-more a b c s x h k n m p q e f g = rw (put-in s x h k n m p q e) (Consumes-trans a b c (take h s) (take n x) f g)
