-- A Range with one end, where its limit is no NaN, puts out nothing beyond it and no NaN, whatever comes in; what was neither keeps its bits, -0 at a limit of 0 too. Assumes nothing.
use Rattle.std.specs.Prelude.{◌≡◌, Bool, not, ◌||◌, ℕ, ◌*◌, T, Float}
use Rattle.std.proofs.Math.Path.{refl}
use Rattle.std.proofs.Common.{sym, ap, subst, ◌∙◌, eq-eqb}
use Rattle.std.proofs.Math.Bool.{true, false, cond}
use Rattle.std.specs.Float.Ieee.{nan, level, lt, le, eq, ne, is_nan, up, down}
use Rattle.std.specs.Float.{inf, fin}
use Rattle.process_list.specs.declared.RangeEnd.{RangeEnd}
use Rattle.process_list.specs.declared.RangeEnd.TheVariants.{Minimum, Maximum}
use Rattle.pixel.specs.declared.Pixel.{Pixel}
use Rattle.pixel.specs.declared.CodeValue.{CodeValue}
use Rattle.pixel.specs.Order.{not-above, le-not-above, lt_irrefl}
use Rattle.pixel.specs.OneEnd.{beyond, limited, limited_pixel, InsidePixel, KeepsEnd, KeepsEndPixel}

apart : {q : Bool} → q ≡ true → q ≡ false → ⊥
apart a b = subst T (sym a ∙ b) tt

-- the limit is not beyond itself
limit-inside : (end : RangeEnd) (limit : Float) → beyond end limit limit ≡ false
unfolding beyond
limit-inside Minimum limit = lt_irrefl limit
limit-inside Maximum limit = lt_irrefl limit

level-self : (s : Bool) (a : ℕ) → level s a s a ≡ true
level-self true a = simp (eq-eqb a a refl)
level-self false a = simp (eq-eqb a a refl)

-- a NaN alone does not equal itself: the code's test of the limit
self-unequal : (x : Float) → ne x x ≡ is_nan x
unfolding is_nan ne eq
self-unequal nan = refl
self-unequal (inf true) = refl
self-unequal (inf false) = refl
self-unequal (fin s m e) = rw (level-self s (m * up e * down e)) refl

pub known-number : (x : Float) → T (not (is_nan x)) → is_nan x ≡ false
known-number x h = go (is_nan x) h
  where
    go : (q : Bool) → T (not q) → q ≡ false
    go true t = absurd t
    go false t = refl

-- ---- the code's tests

-- at least a minimum, at most a maximum
unfoldable pub stays : RangeEnd → Float → Float → Bool
stays Minimum limit x = le limit x
stays Maximum limit x = le x limit

-- of two numbers one is at most the other, or above it
le-by-lt : (x y : Float) → is_nan x ≡ false → is_nan y ≡ false → le x y ≡ not (lt y x)
le-by-lt x y p q = go (le x y) (lt y x) (le-not-above x y) (not-above x y (rw p tt) (rw q tt))
  where
    go : (a b : Bool) → (T a → b ≡ false) → (b ≡ false → T a) → a ≡ not b
    go true b f g = rw (f tt) refl
    go false true f g = refl
    go false false f g = absurd (g refl)

nan_right : (x : Float) → le x nan ≡ false
unfolding le lt eq
nan_right nan = refl
nan_right (inf s) = refl
nan_right (fin s m e) = refl

-- at a limit that is a number, what is neither a NaN nor beyond it stays
stays-inside : (end : RangeEnd) (limit x : Float) → is_nan limit ≡ false → stays end limit x ≡ not (is_nan x || beyond end limit x)
unfolding stays beyond is_nan le lt eq
stays-inside Minimum limit nan h = nan_right limit
stays-inside Minimum limit (inf s) h = le-by-lt limit (inf s) h refl
stays-inside Minimum limit (fin s m e) h = le-by-lt limit (fin s m e) h refl
stays-inside Maximum limit nan h = refl
stays-inside Maximum limit (inf s) h = le-by-lt (inf s) limit refl h
stays-inside Maximum limit (fin s m e) h = le-by-lt (fin s m e) limit refl h

-- nothing is beyond a NaN, and a NaN becomes the same
nan-limit : (end : RangeEnd) (x : Float) → cond (is_nan x || beyond end nan x) nan x ≡ x
unfolding beyond is_nan lt
nan-limit Minimum nan = refl
nan-limit Minimum (inf s) = refl
nan-limit Minimum (fin s m e) = refl
nan-limit Maximum nan = refl
nan-limit Maximum (inf s) = refl
nan-limit Maximum (fin s m e) = refl

abbrev code : Float → CodeValue
code x = record { 0 = x }

module _ (end : RangeEnd) (x : CodeValue) where
  -- the code's test of x, at a limit that is a number
  limited-by-stays : (limit : Float) → is_nan limit ≡ false → cond (stays end limit x.0) x (code limit) ≡ limited end limit x
  unfolding limited
  limited-by-stays limit h = rw (stays-inside end limit x.0 h) (go (is_nan x.0 || beyond end limit x.0))
    where
      go : (q : Bool) → cond (not q) x (code limit) ≡ code (cond q limit x.0)
      go true = refl
      go false = refl

  -- the code's two tests: whether the limit equals itself, then whether x stays
  pub limited-by-tests : (limit : Float) → cond (ne limit limit) x (cond (stays end limit x.0) x (code limit)) ≡ limited end limit x
  unfolding limited is_nan
  limited-by-tests nan = rw (self-unequal nan) (ap code (sym (nan-limit end x.0)))
  limited-by-tests (inf s) = rw (self-unequal (inf s)) (limited-by-stays (inf s) refl)
  limited-by-tests (fin s m e) = rw (self-unequal (fin s m e)) (limited-by-stays (fin s m e) refl)

module _ (end : RangeEnd) (limit : Float) where
  pub limited-keeps : (x : CodeValue) → KeepsEnd end limit x.0 (limited end limit x).0
  unfolding limited
  limited-keeps x = go (is_nan x.0) (beyond end limit x.0) refl refl
    where
      go : (p q : Bool) → is_nan x.0 ≡ p → beyond end limit x.0 ≡ q → KeepsEnd end limit x.0 (cond (p || q) limit x.0)
      go true q a b = record {
        inside = λ h. record { not_beyond = limit-inside end limit; known = h };
        kept = λ n i. absurd (apart a n);
        clamped = λ i. refl;
        replaced = λ n. refl;
      }
      go false true a b = record {
        inside = λ h. record { not_beyond = limit-inside end limit; known = h };
        kept = λ n i. absurd (apart b i);
        clamped = λ i. refl;
        replaced = λ n. refl;
      }
      go false false a b = record {
        inside = λ h. record { not_beyond = b; known = a };
        kept = λ n i. refl;
        clamped = λ i. absurd (apart i b);
        replaced = λ n. absurd (apart n a);
      }

  pub limited-pixel-keeps : (x : Pixel) → KeepsEndPixel end limit x (limited_pixel end limit x)
  unfolding limited_pixel
  limited-pixel-keeps x = record { red = limited-keeps (record { 0 = x.r }); green = limited-keeps (record { 0 = x.g }); blue = limited-keeps (record { 0 = x.b }) }

  -- the promise, of an answer that equals the definition's
  pub pixel-keeps : (x r : Pixel) → r ≡ limited_pixel end limit x → KeepsEndPixel end limit x r
  pixel-keeps x r e = subst (λ (y : Pixel). KeepsEndPixel end limit x y) (sym e) (limited-pixel-keeps x)

  -- with a limit that is a number, every component comes out on its side
  pub limited-inside : (x : Pixel) → is_nan limit ≡ false → InsidePixel end limit (limited_pixel end limit x)
  limited-inside x h = let k = limited-pixel-keeps x in record { red = k.red.inside h; green = k.green.inside h; blue = k.blue.inside h }
