use Rattle.replacing.proofs.Calls.{element-behind}
use Rattle.replacing.proofs.judge_element.Goals as goal

pub returns-then-read-element : goal.returns-then-read-element
returns-then-read-element c = element-behind _ _ c.in-Ok.ensures c.if-read-element.true
