-- The names of the nodes, as the code has them.
use Rattle.clf.specs.Nodes.{is_matrix, is_lut1d, is_range, is_cdl, is_lut3d, not_carried, no_node}
use Rattle.clf.specs.Nodes as Nodes
use Rattle.nodes.specs.declared.CarriedNode.{CarriedNode}
use Rattle.nodes.specs.declared.CarriedNode.TheVariants as Carrieds
use Rattle.nodes.specs.declared.NodeName.{NodeName}
use Rattle.nodes.specs.declared.NodeName.TheVariants as Names

abbrev pub carried_of : CarriedNode → Nodes.NodeName
carried_of Carrieds.Matrix = is_matrix
carried_of Carrieds.Lut1d = is_lut1d
carried_of Carrieds.Range = is_range
carried_of Carrieds.Cdl = is_cdl
carried_of Carrieds.Lut3d = is_lut3d

abbrev pub name_of : NodeName → Nodes.NodeName
name_of (Names.Carried c) = carried_of c
name_of Names.NotCarried = not_carried
name_of Names.Other = no_node
