use Rattle.pixel_cube.proofs.raised.Goals as goal

pub returns-in-Red : goal.returns-in-Red
returns-in-Red c = simp c.in-Red.is

pub returns-in-Green : goal.returns-in-Green
returns-in-Green c = simp c.in-Green.is

pub returns-in-Blue : goal.returns-in-Blue
returns-in-Blue c = simp c.in-Blue.is
