-- The values in a small room, all four or one pair. Assumes nothing.
use mathlib.Core.Path.{◌≡◌, refl, sym, ap, subst, ◌∙◌}
use mathlib.Core.Bool.{Bool, false}
use mathlib.Core.List.{List, [], ◌∷◌, map}
use mathlib.Core.Option.{Option, none}
use Prim.Native.Nat.{ℕ, ◌+◌, ◌<◌}
use native.Mathlib.Omega.{arith}
use lib.ListN.{length, get_or, length-map, get_or-map}
use Rattle.decimal.specs.declared.Decimal.{Decimal}
use Rattle.decimal.specs.Decimal as Decimals
use Rattle.room.specs.Room.{Room, room_length}
use Rattle.values.specs.Code.{Laid}
use Rattle.values.proofs.Stored.{laid_then}
use Rattle.clf.specs.Nodes.{is_some, or_else, RangeState, is_there, value_at, all_there, in_order, in_of, out_of, other_end, only_pair, pair_equal, one_end_fault, range_missing, range_fault, range_index}
use Rattle.node_parts.specs.Code.{small_number_at, small_numbers}
use Rattle.node_parts.proofs.Smalls.{numbers-length, numbers-at}
use Rattle.process_list.specs.declared.RangeEnd.{RangeEnd}
use Rattle.process_list.specs.declared.RangeEnd.TheVariants.{Minimum, Maximum}
use Rattle.range_node.specs.Code.{range_fault_of, all_of, only_of, ordered_in, pair_missing, missing_of, RangeStands}

-- two numbers stored, one behind the other
pub two-laid : (base : ℕ) (d e : Decimal) (m₀ m₁ m₂ : Room) → Laid (base + 0) (d ∷ []) m₀ m₁ → Laid (base + 1) (e ∷ []) m₁ m₂ → Laid base (d ∷ e ∷ []) m₀ m₂
two-laid base d e m₀ m₁ m₂ h k =
    let z : base + 0 ≡ base = omega arith in
    laid_then base (d ∷ []) (e ∷ []) m₀ m₁ m₂ (subst (λ (i : ℕ). Laid i (d ∷ []) m₀ m₁) z h) k

-- ---- what the flags and the room say of the values

module _ (m : Room) (found : List Bool) (st : RangeState) (v : RangeStands m found st) where
  there : (k : ℕ) → get_or found k false ≡ is_there k st
  there k = ap (λ (l : List Bool). get_or l k false) v.found_is ∙ get_or-map is_some st.values k none

  pub faults : (w : List ℕ) → range_fault_of found w ≡ range_fault st w
  unfolding range_fault_of
  faults w = rw (there 0, there 1, there 2, there 3, there (range_index w))

  room : room_length m ≡ 4
  room = sym (numbers-length m) ∙ ap length v.numbers ∙ length-map st.values (or_else Decimals.zero) ∙ v.four

  number : (k : ℕ) → k < 4 → small_number_at m k ≡ value_at k st
  number k h =
      sym (numbers-at m k (omega (arith, room))) ∙ ap (λ (l : List Decimal). get_or l k Decimals.zero) v.numbers
      ∙ get_or-map (or_else Decimals.zero) st.values k none

  pub all : all_of found ≡ all_there st
  all = rw (there 0, there 1, there 2, there 3)

  pub only : (e : RangeEnd) → only_of e found ≡ only_pair e st
  unfolding only_of only_pair
  only e = rw (there (in_of e), there (out_of e), there (in_of (other_end e)), there (out_of (other_end e)))

  pub number_in : (e : RangeEnd) → small_number_at m (in_of e) ≡ value_at (in_of e) st
  number_in Minimum = number 0 (omega arith)
  number_in Maximum = number 1 (omega arith)

  pub number-out : (e : RangeEnd) → small_number_at m (out_of e) ≡ value_at (out_of e) st
  number-out Minimum = number 2 (omega arith)
  number-out Maximum = number 3 (omega arith)

  pair-lacking : (allowed : Bool) (e : RangeEnd) → pair_missing allowed e m ≡ one_end_fault allowed e st
  unfolding pair_missing one_end_fault pair_equal
  pair-lacking allowed e = rw (number_in e, number-out e)

  ordered : ordered_in m ≡ in_order st
  unfolding ordered_in
  ordered = rw (number 0 (omega arith), number 1 (omega arith), number 2 (omega arith), number 3 (omega arith))

  pub lacking : (allowed : Bool) → missing_of allowed found m ≡ range_missing allowed st
  unfolding missing_of range_missing
  lacking allowed = rw (all, ordered, only Minimum, only Maximum, pair-lacking allowed Minimum, pair-lacking allowed Maximum)

  four-numbers : (vs : List (Option Decimal)) → length vs ≡ 4
      → map (or_else Decimals.zero) vs ≡ or_else Decimals.zero (get_or vs 0 none) ∷ or_else Decimals.zero (get_or vs 1 none) ∷ or_else Decimals.zero (get_or vs 2 none) ∷ or_else Decimals.zero
      (get_or vs 3 none) ∷ []
  four-numbers [] q = absurd (omega arith)
  four-numbers (a ∷ []) q = absurd (omega arith)
  four-numbers (a ∷ b ∷ []) q = absurd (omega arith)
  four-numbers (a ∷ b ∷ d ∷ []) q = absurd (omega arith)
  four-numbers (a ∷ b ∷ d ∷ e ∷ []) q = refl
  four-numbers (a ∷ b ∷ d ∷ e ∷ x ∷ vs) q = absurd (omega arith)

  pub numbers : small_numbers m ≡ value_at 0 st ∷ value_at 1 st ∷ value_at 2 st ∷ value_at 3 st ∷ []
  numbers = v.numbers ∙ four-numbers st.values v.four
