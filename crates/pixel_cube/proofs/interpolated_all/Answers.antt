use Rattle.std.proofs.Common.{◌≡◌, ap, ◌∙◌, List, ℕ, rules}
use Rattle.std.specs.Prelude.{Float}
use Rattle.room.specs.Room.{lent}
use Rattle.pixel_cube.specs.declared.Corner.{Corner}
use Rattle.pixel_cube.specs.declared.Cell.{Cell}
use Rattle.pixel_cube.specs.declared.Leg.{Leg}
use Rattle.pixel_cube.specs.declared.Walk.{Walk}
use Rattle.pixel_cube.specs.Table.{entry_at}
use Rattle.pixel_cube.specs.Ways.{low_of, legs_of, WalkInside, WalkIn, red_way, walked, walked_all, way_by}
use Rattle.pixel_cube.proofs.interpolated_all.Goals as goal

walked-in : (entry : Corner → Float) (cell : Cell) (w : Walk) → WalkIn cell w → walked entry w.low (legs_of w) ≡ walked_all entry cell
unfolding walked_all
walked-in entry cell w h = ap (λ (c : Corner). walked entry c (legs_of w)) h.low ∙ ap (λ (ls : List Leg). walked entry (low_of cell) ls) h.legs

pub returns-in-Trilinear : goal.returns-in-Trilinear
unfolding way_by
returns-in-Trilinear c =
    let a = c.args in
    simp c.in-Trilinear.is (c.each_component.ensures (λ k. red_way (entry_at (lent a.coefficients.now a.powers.now) a.at a.n k) a.cell) (λ k y h q. search rules))

pub each_component-requires-in-Tetrahedral-clause-red : goal.each_component-requires-in-Tetrahedral-clause-red
each_component-requires-in-Tetrahedral-clause-red c = let stays : WalkInside c.args.n c.walk_in-w.result = c.walk_in-w.ensures.inside c.args.n c.requires.cell_inside in search rules

pub each_component-requires-in-Tetrahedral-clause-green : goal.each_component-requires-in-Tetrahedral-clause-green
each_component-requires-in-Tetrahedral-clause-green c = let stays : WalkInside c.args.n c.walk_in-w.result = c.walk_in-w.ensures.inside c.args.n c.requires.cell_inside in search rules

pub each_component-requires-in-Tetrahedral-clause-blue : goal.each_component-requires-in-Tetrahedral-clause-blue
each_component-requires-in-Tetrahedral-clause-blue c = let stays : WalkInside c.args.n c.walk_in-w.result = c.walk_in-w.ensures.inside c.args.n c.requires.cell_inside in search rules

pub returns-in-Tetrahedral : goal.returns-in-Tetrahedral
unfolding way_by
returns-in-Tetrahedral c =
    let a = c.args in
    let e : ℕ → Corner → Float = entry_at (lent a.coefficients.now a.powers.now) a.at a.n in
    let w = c.walk_in-w.result in
    simp c.in-Tetrahedral.is
    (c.each_component-in-Tetrahedral.ensures (λ k. walked_all (e k) a.cell) (λ k y h q.
    let s : y ≡ walked (e k) w.low (legs_of w) = search rules in
    s ∙ walked-in (e k) a.cell w c.walk_in-w.ensures))
