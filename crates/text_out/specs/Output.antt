-- Text into a lent output, piece by piece.
use Rattle.std.specs.Prelude.{◌≡◌, List, ℕ, ◌+◌, ◌-◌, ◌^◌, min, length}
use Rattle.room.specs.Room.{laid}

-- an index, as the code counts it: no larger than a usize
unfoldable pub counted : ℕ → ℕ
counted n = min n (2 ^ 64 - 1)

-- The text f t (a piece, then t) is to stand in s from index `at` on, as far as s goes (`laid`). Then s' is the output and r the index at which
-- the text g t is still to follow: whatever t is, the output comes out the same, and so does the index behind all.
pub record Goes (f g : List ℕ → List ℕ) (at : ℕ) (s s' : List ℕ) (r : ℕ) : Type 0 where
  pub bytes : (t : List ℕ) → laid (length s) at (f t) s ≡ laid (length s) r (g t) s'
  pub next : (t : List ℕ) → counted (at + length (f t)) ≡ counted (r + length (g t))
  pub size : length s' ≡ length s

-- the piece has been put: only what follows it is left
abbrev pub Puts : (List ℕ → List ℕ) → ℕ → List ℕ → List ℕ → ℕ → Type 0
Puts f at s s' r = Goes f (λ t. t) at s s' r
