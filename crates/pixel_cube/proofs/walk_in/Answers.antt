use mathlib.Core.Path.{◌≡◌, refl, sym, ap, ◌∙◌, subst}
use mathlib.Core.List.{List, [], ◌∷◌, map}
use Prim.Native.Nat.{ℕ}
use Rattle.pixel_cube.specs.declared.Axis.{Axis}
use Rattle.pixel_cube.specs.declared.Corner.{Corner}
use Rattle.pixel_cube.specs.declared.Cell.{Cell}
use Rattle.pixel_cube.specs.declared.Order.{Order}
use Rattle.pixel_cube.specs.declared.Leg.{Leg}
use Rattle.pixel_cube.specs.Cube.{falling, all_axes}
use Rattle.pixel_cube.specs.Corners.{Inside, Every}
use Rattle.pixel_cube.specs.Ways.{part_on, low_of, CellInside, listed, leg_from, legs_from, legs_in, WalkInside, WalkIn}
use Rattle.pixel_cube.proofs.WaysLaws.{low-inside, legs-inside}
use Rattle.pixel_cube.proofs.walk_in.Goals as goal

module _ (cell : Cell) (o : Order) (low : Corner) (a b c : Leg)
    (order : listed o ≡ falling (part_on cell) all_axes)
    (start : low ≡ low_of cell)
    (first : a ≡ leg_from cell low o.first)
    (second : b ≡ leg_from cell a.to o.second)
    (third : c ≡ leg_from cell b.to o.third) where
  one_by_one : ◌≡◌ {A = List Leg} (a ∷ b ∷ c ∷ []) (legs_from cell low (listed o))
  unfolding legs_from
  one_by_one = rw (third, second, first) refl

  all-legs : ◌≡◌ {A = List Leg} (a ∷ b ∷ c ∷ []) (legs_in cell)
  unfolding legs_in
  all-legs = one_by_one ∙ ap (λ (k : Corner). legs_from cell k (listed o)) start ∙ ap (λ (axes : List Axis). legs_from cell (low_of cell) axes) order

  stays : (n : ℕ) → CellInside n cell → WalkInside n (record { low = low; first = a; second = b; third = c })
  stays n h =
      let begins : Inside n low = rw start (low-inside n cell h) in
      let all = subst (λ (ls : List Leg). Every (Inside n) (map (λ l. l.to) ls)) (sym one_by_one) (legs-inside n cell h (listed o) low begins) in
      record { low = begins; first = all.0; second = all.1.0; third = all.1.1.0 }

  walks : WalkIn cell (record { low = low; first = a; second = b; third = c })
  walks = record { low = start; legs = all-legs; inside = stays }

pub returns : goal.returns
returns c =
    walks c.args.cell c.order_of-axes.result c.low-low.result c.leg_from-first.result c.leg_from-second.result c.leg_from-third.result
    c.order_of-axes.ensures c.low-low.ensures c.leg_from-first.ensures c.leg_from-second.ensures c.leg_from-third.ensures
