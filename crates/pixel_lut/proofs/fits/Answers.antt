use Rattle.std.proofs.Common.{◌≡◌, ℕ, ◌+◌, ◌-◌, ◌≤◌, Bool, true, false, leb, sym, ◌∙◌, refl, arith, le-leb, leb-false, leb-true}
use borrow.Author.Tests.{lt-leb}
use borrow.Author.Tests.{lt-leb}
use Rattle.pixel_lut.proofs.fits.Goals as goal

moved : (at count room : ℕ) → at ≤ room → leb count (room - at) ≡ leb (at + count) room
moved at count room h = go (leb (at + count) room) refl
  where
    go : (q : Bool) → leb (at + count) room ≡ q → leb count (room - at) ≡ q
    go true e = le-leb count (room - at) (omega (arith, leb-true (at + count) room e))
    go false e = lt-leb count (room - at) (omega (arith, leb-false (at + count) room e))

pub returns-then-at-room : goal.returns-then-at-room
returns-then-at-room c = let a = c.args in moved a.at a.count a.room (omega arith)

pub returns-else-at-room : goal.returns-else-at-room
returns-else-at-room c = let a = c.args in lt-leb a.at a.room (omega arith) ∙ sym (lt-leb (a.at + a.count) a.room (omega arith))
