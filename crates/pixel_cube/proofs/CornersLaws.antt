-- Each method keeps its corners, shown once over a row of passes, whatever they are: by induction over the passes, and in a pass over its steps. Assumes nothing.
use Rattle.std.specs.Prelude.{◌≡◌, Bool, not, cond, ℕ, ◌+◌, ◌≤◌, ◌<◌, T, Float}
use Rattle.std.proofs.Math.Path.{refl}
use Rattle.std.proofs.Common.{sym, ◌∙◌, true≢false, arith}
use Rattle.std.proofs.Math.Bool.{true, false}
use mathlib.Core.List.{List, [], ◌∷◌, ◌++◌, map}
use Rattle.std.specs.Float.Ieee.{lt, le, eq, is_nan}
use Rattle.process_list.specs.declared.Interpolation.{Interpolation}
use Rattle.process_list.specs.declared.Interpolation.TheVariants.{Trilinear, Tetrahedral}
use Rattle.pixel.specs.declared.Fraction.{Fraction}
use Rattle.pixel.specs.declared.Fractions.{Fractions}
use Rattle.pixel.specs.F64 as F64
use Rattle.pixel.specs.Bounds.{Between}
use Rattle.pixel.specs.Hold.{hold}
use Rattle.pixel.specs.HoldLaws.{hold-between}
use Rattle.pixel.specs.Order.{not-above, lt-le, le_refl, le_left, le_right, le_trans, between-wider}
use Rattle.pixel_lut.specs.Lut1d.{index, remainder, smaller, larger, looked_up}
use Rattle.pixel_lut.specs.Lut1d as Lut1d
use Rattle.pixel_lut.specs.Lut1dLaws.{index_below, next-below, last-exact, looked-up-stepped}
use Rattle.pixel_cube.specs.declared.Axis.{Axis}
use Rattle.pixel_cube.specs.declared.Axis.TheVariants.{Red, Green, Blue}
use Rattle.pixel_cube.specs.declared.Corner.{Corner}
use Rattle.pixel_cube.specs.Cube.{fraction_on, remainder_on, corner, low, raised, insert_axis, falling, leaving, Step, steps_from, steps_along, summed, smallest, largest, summed_and_held}
use Rattle.pixel_cube.specs.Cube.{interpolated_by}
use Rattle.pixel_cube.specs.Cube as Cube
use Rattle.pixel_cube.specs.Corners.{passes, listed_for, used_from, corners_used, Inside, Every, KeepsCorners}
use Rattle.pixel_cube.proofs.CountLaws.{corners-many}

-- ---- each of a list of corners
every_map : (P Q : Corner → Type 0) → ((c : Corner) → P c → Q c) → (cs : List Corner) → Every P cs → Every Q cs
every_map P Q f [] h = tt
every_map P Q f (c ∷ cs) h = (f c h.0, every_map P Q f cs h.1)

every-join : (P : Corner → Type 0) (cs ds : List Corner) → Every P cs → Every P ds → Every P (cs ++ ds)
every-join P [] ds h k = k
every-join P (c ∷ cs) ds h k = (h.0, every-join P cs ds h.1 k)

every-parts : (P : Corner → Type 0) (cs ds : List Corner) → Every P (cs ++ ds) → Every P cs × Every P ds
every-parts P [] ds h = (tt, h)
every-parts P (c ∷ cs) ds h = let r = every-parts P cs ds h.1 in ((h.0, r.0), r.1)

listed-every : (P : Corner → Type 0) (g : Corner → List Corner) (cs : List Corner) → Every (λ c. Every P (g c)) cs → Every P (listed_for g cs)
unfolding listed_for
listed-every P g [] h = tt
listed-every P g (c ∷ cs) h = every-join P (g c) (listed_for g cs) h.0 (listed-every P g cs h.1)

every-listed : (P : Corner → Type 0) (g : Corner → List Corner) (cs : List Corner) → Every P (listed_for g cs) → Every (λ c. Every P (g c)) cs
unfolding listed_for
every-listed P g [] h = tt
every-listed P g (c ∷ cs) h = let r = every-parts P (g c) (listed_for g cs) h in (r.0, every-listed P g cs r.1)

-- ---- the smaller and the larger of two values
smaller-first : (a e : Float) → T (not (is_nan a)) → T (le (smaller a e) a)
smaller-first a e p = go (lt e a) refl
  where
    go : (q : Bool) → lt e a ≡ q → T (le (cond q e a) a)
    go true h = lt-le e a h
    go false h = le_refl a p

smaller-second : (a e : Float) → T (not (is_nan a)) → T (not (is_nan e)) → T (le (smaller a e) e)
smaller-second a e p r = go (lt e a) refl
  where
    go : (q : Bool) → lt e a ≡ q → T (le (cond q e a) e)
    go true h = le_refl e r
    go false h = not-above a e p r h

larger-first : (b e : Float) → T (not (is_nan b)) → T (not (is_nan e)) → T (le b (larger b e))
larger-first b e p r = go (lt e b) refl
  where
    go : (q : Bool) → lt e b ≡ q → T (le b (cond q b e))
    go true h = le_refl b p
    go false h = not-above b e p r h

larger-second : (b e : Float) → T (not (is_nan e)) → T (le e (larger b e))
larger-second b e r = go (lt e b) refl
  where
    go : (q : Bool) → lt e b ≡ q → T (le e (cond q b e))
    go true h = lt-le e b h
    go false h = le_refl e r

-- ---- values between bounds, of which the smallest and the largest are so too
record Spread (lo hi a b : Float) : Type 0 where
  low : T (le lo a)
  ordered : T (le a b)
  high : T (le b hi)

spread-one : (lo hi e : Float) → Between lo hi e → Spread lo hi e e
spread-one lo hi e h = record { low = h.low; ordered = le_refl e (le_right lo e h.low); high = h.high }

spread-more : (lo hi a b e : Float) → Spread lo hi a b → Between lo hi e → Spread lo hi (smaller a e) (larger b e)
spread-more lo hi a b e s h = record { low = lower (lt e a); ordered = le_trans (smaller a e) e (larger b e) (smaller-second a e na ne) (larger-second b e ne); high = higher (lt e b) }
  where
    ne : T (not (is_nan e))
    ne = le_right lo e h.low

    na : T (not (is_nan a))
    na = le_right lo a s.low

    lower : (q : Bool) → T (le lo (cond q e a))
    lower true = h.low
    lower false = s.low

    higher : (q : Bool) → T (le (cond q b e) hi)
    higher true = s.high
    higher false = h.high

module _ (lo hi : Float) (g : Corner → Float) where
  spread-all : (steps : List Step) (a b : Float) → Spread lo hi a b → Every (λ c. Between lo hi (g c)) (map (λ s. s.to) steps)
      → Spread lo hi (smallest a (map (λ s. g s.to) steps)) (largest b (map (λ s. g s.to) steps))
  unfolding smallest largest
  spread-all [] a b s h = s
  spread-all (t ∷ steps) a b s h = spread-all steps (smaller a (g t.to)) (larger b (g t.to)) (spread-more lo hi a b (g t.to) s h.0) h.1

  -- a walk stays between bounds between which every corner's value lies
  held-between : (c : Corner) (steps : List Step) → Every (λ d. Between lo hi (g d)) (c ∷ map (λ s. s.to) steps) → Between lo hi (summed_and_held g c steps)
  unfolding summed_and_held
  held-between c steps h =
      let a = smallest (g c) (map (λ s. g s.to) steps) in
      let b = largest (g c) (map (λ s. g s.to) steps) in
      let s = spread-all steps (g c) (g c) (spread-one lo hi (g c) h.0) h.1 in
      between-wider a b lo hi _ s.low s.high (hold-between _ a b s.ordered)

-- ---- a walk has the same value over tables that agree on its corners
module _ (g h : Corner → Float) where
  abbrev Agree : List Corner → Type 0
  Agree = Every (λ c. g c ≡ h c)

  summed_same : (steps : List Step) (sum before : Float) → Agree (map (λ s. s.to) steps) → summed g sum before steps ≡ summed h sum before steps
  unfolding summed
  summed_same [] sum before k = refl
  summed_same (t ∷ steps) sum before k = rw k.0 (summed_same steps _ _ k.1)

  values_same : (steps : List Step) → Agree (map (λ s. s.to) steps) → map (λ s. g s.to) steps ≡ map (λ s. h s.to) steps
  values_same [] k = refl
  values_same (t ∷ steps) k = rw (k.0, values_same steps k.1) refl

  held_same : (c : Corner) (steps : List Step) → Agree (c ∷ map (λ s. s.to) steps) → summed_and_held g c steps ≡ summed_and_held h c steps
  unfolding summed_and_held
  held_same c steps k = rw (summed_same steps _ _ k.1, values_same steps k.1, k.0) refl

-- ---- without a step a walk is the corner's own value
hold-same : (x : Float) → hold x x x ≡ x
unfolding hold
hold-same x = go (lt x x)
  where
    go : (q : Bool) → cond q x (cond q x x) ≡ x
    go true = refl
    go false = refl

held_none : (g : Corner → Float) (c : Corner) → summed_and_held g c [] ≡ g c
unfolding summed_and_held summed smallest largest
held_none g c = hold-same (g c)

-- ---- a row of passes: each walks from a corner through those to which its steps lead, and what it finds there the passes before have made
module _ (entry : Corner → Float) (f : Axis → Float) (l : Corner) where
  unfoldable made : List (List Axis) → Corner → Float
  made [] = entry
  made (axes ∷ before) = λ c. summed_and_held (made before) c (steps_along f l c axes)

  made-between : (lo hi : Float) (ps : List (List Axis)) (c : Corner) → Every (λ d. Between lo hi (entry d)) (used_from f l ps c) → Between lo hi (made ps c)
  unfolding made used_from
  made-between lo hi [] c h = h.0
  made-between lo hi (axes ∷ before) c h =
      let cs = c ∷ map (λ s. s.to) (steps_along f l c axes) in
      held-between lo hi (made before) c (steps_along f l c axes)
      (every_map (λ d. Every (λ e. Between lo hi (entry e)) (used_from f l before d)) (λ d. Between lo hi (made before d)) (made-between lo hi before) cs
      (every-listed (λ e. Between lo hi (entry e)) (used_from f l before) cs h))

  module _ (none : (a : Axis) → eq (f a) F64.zero ≡ true) where
    leaving-none : (axes : List Axis) → leaving f axes ≡ []
    unfolding leaving
    leaving-none [] = refl
    leaving-none (a ∷ rest) = rw (none a) (leaving-none rest)

    made-exact : (ps : List (List Axis)) (c : Corner) → made ps c ≡ entry c
    unfolding made steps_along steps_from
    made-exact [] c = refl
    made-exact (axes ∷ before) c = rw (leaving-none (falling f axes)) (held_none (made before) c ∙ made-exact before c)

-- ---- no other corner counts
module _ (entry other : Corner → Float) (f : Axis → Float) (l : Corner) where
  made-same : (ps : List (List Axis)) (c : Corner) → Every (λ d. other d ≡ entry d) (used_from f l ps c) → made other f l ps c ≡ made entry f l ps c
  unfolding made used_from
  made-same [] c h = h.0
  made-same (axes ∷ before) c h =
      let cs = c ∷ map (λ s. s.to) (steps_along f l c axes) in
      held_same (made other f l before) (made entry f l before) c (steps_along f l c axes)
      (every_map (λ d. Every (λ e. other e ≡ entry e) (used_from f l before d)) (λ d. made other f l before d ≡ made entry f l before d) (made-same before) cs
      (every-listed (λ e. other e ≡ entry e) (used_from f l before) cs h))

-- ---- no index leaves the table
module _ (n : ℕ) (f : Axis → Float) (l : Corner) (next : (a : Axis) (c : Corner) → eq (f a) F64.zero ≡ false → Inside n c → Inside n (raised l c a)) where
  steps-inside : (axes : List Axis) (c : Corner) → Inside n c → Every (Inside n) (map (λ s. s.to) (steps_from f l c (leaving f axes)))
  unfolding leaving steps_from
  steps-inside [] c h = tt
  steps-inside (a ∷ rest) c h = go (eq (f a) F64.zero) refl (λ d k. steps-inside rest d k)
    where
      go : (q : Bool) → eq (f a) F64.zero ≡ q → ((d : Corner) → Inside n d → Every (Inside n) (map (λ s. s.to) (steps_from f l d (leaving f rest))))
          → Every (Inside n) (map (λ s. s.to) (steps_from f l c (cond q (leaving f rest) (a ∷ leaving f rest))))
      go true e k = k c h
      go false e k = (next a c e h, k (raised l c a) (next a c e h))

  used-inside : (ps : List (List Axis)) (c : Corner) → Inside n c → Every (Inside n) (used_from f l ps c)
  unfolding used_from steps_along
  used-inside [] c h = (h, tt)
  used-inside (axes ∷ before) c h =
      let cs = c ∷ map (λ s. s.to) (steps_along f l c axes) in
      listed-every (Inside n) (used_from f l before) cs (every_map (Inside n) (λ d. Every (Inside n) (used_from f l before d)) (used-inside before) cs (h, steps-inside (falling f axes) c h))

-- ---- the smallest and the largest of the corners' entries bound each of them
module _ (entry : Corner → Float) (known : (c : Corner) → T (not (is_nan (entry c)))) where
  record Bounds (a b : Float) (cs : List Corner) : Type 0 where
    first : T (le (smallest a (map entry cs)) a)
    last : T (le b (largest b (map entry cs)))
    each : Every (λ c. Between (smallest a (map entry cs)) (largest b (map entry cs)) (entry c)) cs

  bounds : (cs : List Corner) (a b : Float) → T (not (is_nan a)) → T (not (is_nan b)) → Bounds a b cs
  unfolding smallest largest
  bounds [] a b p q = record { first = le_refl a p; last = le_refl b q; each = tt }
  bounds (c ∷ cs) a b p q =
      let e = entry c in
      let k = known c in
      let lower = smaller-first a e p in
      let higher = larger-first b e q k in
      let r = bounds cs (smaller a e) (larger b e) (le_left (smaller a e) a lower) (le_right b (larger b e) higher) in
      record {
        first = le_trans _ (smaller a e) a r.first lower;
        last = le_trans b (larger b e) _ higher r.last;
        each = (record { low = le_trans _ (smaller a e) e r.first (smaller-second a e p k); high = le_trans e (larger b e) _ (larger-second b e k) r.last }, r.each);
      }

-- ---- each method is its row of passes

-- a walk along one axis is LUT1D's step
along_one : (g : Corner → Float) (f : Axis → Float) (l c : Corner) (a : Axis) → summed_and_held g c (steps_along f l c (a ∷ [])) ≡ Lut1d.stepped (g c) (g (raised l c a)) (f a)
unfolding summed_and_held steps_along falling insert_axis leaving steps_from summed smallest largest Lut1d.stepped Lut1d.interpolated
along_one g f l c a = go (eq (f a) F64.zero)
  where
    go : (q : Bool) → summed_and_held g c (steps_from f l c (cond q [] (a ∷ []))) ≡ cond q (g c) (Lut1d.interpolated (g c) (g (raised l c a)) (f a))
    go true = held_none g c
    go false = refl

module _ (entry : Corner → Float) (n : ℕ) (x : Fractions) (some : 2 ≤ n) (most : n ≤ 65536) where
  row : List (List Axis) → Corner → Float
  row = made entry (remainder_on n x) (low n x)

  -- so a lookup along an axis is a pass, if it finds there what the passes before have made
  one-pass : (h : ℕ → Float) (before : List (List Axis)) (c : Corner) (a : Axis)
      → h (index n (fraction_on x a)) ≡ row before c
      → h (index n (fraction_on x a) + 1) ≡ row before (raised (low n x) c a)
      → (looked_up h n (fraction_on x a)).0 ≡ row ((a ∷ []) ∷ before) c
  unfolding row made remainder_on
  one-pass h before c a p q = looked-up-stepped h n (fraction_on x a) some most ∙ rw (p, q) (sym (along_one (row before) (remainder_on n x) (low n x) c a))

  along-blue : (i j : ℕ) → Cube.along_blue entry n x i j ≡ row ((Blue ∷ []) ∷ []) (corner i j (index n x.b))
  unfolding Cube.along_blue row made low
  along-blue i j = one-pass (λ k. entry (corner i j k)) [] (corner i j (index n x.b)) Blue refl refl

  along-green : (i : ℕ) → Cube.along_green entry n x i ≡ row ((Green ∷ []) ∷ (Blue ∷ []) ∷ []) (corner i (index n x.g) (index n x.b))
  unfolding Cube.along_green low
  along-green i = one-pass (Cube.along_blue entry n x i) ((Blue ∷ []) ∷ []) (corner i (index n x.g) (index n x.b)) Green (along-blue i _) (along-blue i _)

  by-passes : (interpolation : Interpolation) → (interpolated_by interpolation entry n x).0 ≡ row (passes interpolation) (low n x)
  unfolding interpolated_by Cube.trilinear Cube.tetrahedral row made low
  by-passes Trilinear = one-pass (Cube.along_green entry n x) ((Green ∷ []) ∷ (Blue ∷ []) ∷ []) (low n x) Red (along-green _) (along-green _)
  by-passes Tetrahedral = refl

-- ---- the low corner is an entry, and so is the next one on an axis whose remainder is not 0
pub next-on : (n : ℕ) (y : Fraction) → 2 ≤ n → n ≤ 65536 → eq (remainder n y) F64.zero ≡ false → index n y + 1 < n
next-on n y some most e = next-below n y (omega arith) (λ k. true≢false (sym (last-exact n y some most k) ∙ e))

abbrev pub index_on : Corner → Axis → ℕ
index_on c Red = c.red
index_on c Green = c.green
index_on c Blue = c.blue

pub raised-inside : (n : ℕ) (l c : Corner) (a : Axis) → index_on l a + 1 < n → Inside n c → Inside n (raised l c a)
raised-inside n l c Red k h = record { red = k; green = h.green; blue = h.blue }
raised-inside n l c Green k h = record { red = h.red; green = k; blue = h.blue }
raised-inside n l c Blue k h = record { red = h.red; green = h.green; blue = k }

module _ (n : ℕ) (x : Fractions) (some : 2 ≤ n) (most : n ≤ 65536) where
  low-inside : Inside n (low n x)
  unfolding low
  low-inside = record { red = index_below n x.r (omega arith); green = index_below n x.g (omega arith); blue = index_below n x.b (omega arith) }

  next_low : (a : Axis) → eq (remainder_on n x a) F64.zero ≡ false → index_on (low n x) a + 1 < n
  unfolding remainder_on low
  next_low Red = next-on n x.r some most
  next_low Green = next-on n x.g some most
  next_low Blue = next-on n x.b some most

-- ---- the theorem
module _ (entry : Corner → Float) (n : ℕ) (x : Fractions) (some : 2 ≤ n) (most : n ≤ 65536) where
  pub keeps : ((c : Corner) → T (not (is_nan (entry c)))) → (interpolation : Interpolation) → KeepsCorners interpolation entry n x (interpolated_by interpolation entry n x).0
  unfolding row corners_used
  keeps known interpolation =
      let ps = passes interpolation in
      let f = remainder_on n x in
      let l = low n x in
      let all = bounds entry known (corners_used interpolation n x) (entry l) (entry l) (known l) (known l) in
      rw (by-passes entry n x some most interpolation)
      (record {
        between = made-between entry f l _ _ ps l all.each;
        exact = λ none. made-exact entry f l none ps l;
        only = λ other same. by-passes other n x some most interpolation ∙ made-same entry other f l ps l same;
        many = corners-many f l l interpolation;
        inside = used-inside n f l (λ a c e. raised-inside n l c a (next_low n x some most a e)) ps l (low-inside n x some most);
      })
