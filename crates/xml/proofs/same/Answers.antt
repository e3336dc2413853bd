use Rattle.std.proofs.Common.{rules}
use Rattle.xml.specs.Bytes.{same}
use Rattle.xml.proofs.same.Goals as goal

pub returns : goal.returns
unfolding same
returns c = search rules
