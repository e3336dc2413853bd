use Rattle.file_text.specs.Code.{carried, other}
use native.Mathlib.Omega.{arith}
use Rattle.clf.specs.Nodes.{node_fault}
use Rattle.nodes.specs.Code.{name_of}
use mathlib.Core.Path.{refl, ap}
use Rattle.file_text.proofs.node_child.Goals as goal

pub returns-in-Carried : goal.returns-in-Carried
returns-in-Carried c = carried _ (ap name_of c.in-Carried.is) c.carried_child.ensures

pub returns-in-NotCarried : goal.returns-in-NotCarried
returns-in-NotCarried c = other 7 (ap (λ x. node_fault (name_of x)) c.in-NotCarried.is) (λ z. omega arith) refl refl

pub returns-in-Other : goal.returns-in-Other
returns-in-Other c = other 5 (ap (λ x. node_fault (name_of x)) c.in-Other.is) (λ z. omega arith) refl refl
