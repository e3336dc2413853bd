-- The texts of a node's attributes, as the code goes through them: a depth, the id, or another one. Assumes nothing.
use mathlib.Core.Path.{◌≡◌, refl}
use Rattle.std.specs.Prelude as Std
use Rattle.std.specs.Prelude.{Some, None}
use Rattle.process_list.specs.declared.Depth.{Depth}
use Rattle.process_list.specs.declared.Interpolation.{Interpolation}
use Rattle.tags.specs.Code.{depth_read, shape_read, cube_read}
use Rattle.tags.specs.declared.Shape.{Shape}
use mathlib.Core.Bool.{true, false, cond, ◌||◌}
use mathlib.Core.List.{List}
use Prim.Native.Nat.{ℕ}
use Rattle.xml.specs.Bytes.{bytes, same}
use Rattle.ids.specs.Ids.{id_right, most_node_id_bytes}
use Rattle.clf.specs.Nodes.{is_some, depth_of, node_texts}

-- ---- whether an answer of the code is one

pub some-depth : (r : Std.Option Depth) → Std.is_some r ≡ is_some (depth_read r)
some-depth (Some d) = refl
some-depth None = refl

pub some-shape : (r : Std.Option Shape) → Std.is_some r ≡ is_some (shape_read r)
some-shape (Some shape) = refl
some-shape None = refl

pub some-points : (i : Interpolation) (r : Std.Option ℕ) → Std.is_some r ≡ is_some (cube_read i r)
some-points i (Some n) = refl
some-points i None = refl

-- ----

module _ (rest r : ℕ) (w t : List ℕ) where
  pub text-depth : same w (bytes "inBitDepth") || same w (bytes "outBitDepth") ≡ true → r ≡ cond (is_some (depth_of t)) 0 8 → r ≡ node_texts (λ a b. rest) w t
  text-depth e q = simp e q

  module _ (e : same w (bytes "inBitDepth") || same w (bytes "outBitDepth") ≡ false) where
    pub text-id : same w (bytes "id") ≡ true → r ≡ cond (id_right most_node_id_bytes t) 0 24 → r ≡ node_texts (λ a b. rest) w t
    text-id f q = simp (e, f) q

    pub text-other : same w (bytes "id") ≡ false → rest ≡ node_texts (λ a b. rest) w t
    text-other f = simp (e, f)
