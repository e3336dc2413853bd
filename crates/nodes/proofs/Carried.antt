-- A node that is carried is at fault of nothing by its name. Assumes nothing.
use mathlib.Core.Path.{◌≡◌, refl}
use Rattle.clf.specs.Nodes.{node_fault}
use Rattle.nodes.specs.Code.{carried_of}
use Rattle.nodes.specs.declared.CarriedNode.{CarriedNode}
use Rattle.nodes.specs.declared.CarriedNode.TheVariants as Carrieds

pub carried-well : (n : CarriedNode) → node_fault (carried_of n) ≡ 0
carried-well Carrieds.Matrix = refl
carried-well Carrieds.Lut1d = refl
carried-well Carrieds.Range = refl
carried-well Carrieds.Cdl = refl
carried-well Carrieds.Lut3d = refl
