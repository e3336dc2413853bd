use mathlib.Core.Path.{◌≡◌, refl}
use Rattle.std.specs.Prelude.{Option, Some, None, unwrap_or}
use Rattle.process_list.specs.declared.Depth.{Depth}
use Rattle.process_list.specs.declared.Depth.TheVariants.{I8}
use Rattle.clf.specs.Nodes.{or_else}
use Rattle.tags.specs.Code.{depth_read}
use Rattle.node_parts.proofs.depth_in.Goals as goal

same_else : (o : Option Depth) → unwrap_or o I8 ≡ or_else I8 (depth_read o)
same_else None = refl
same_else (Some d) = refl

pub returns : goal.returns
returns c = rw (c.unwrap_or.ensures, ← c.part.ensures, ← c.depth_of.ensures) (same_else c.depth_of.result)
