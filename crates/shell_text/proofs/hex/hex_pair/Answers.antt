use Rattle.shell_text.specs.Hex.{pair_text}
use Rattle.shell_text.proofs.hex.hex_pair.Goals as goal

pub returns : goal.returns
unfolding pair_text
returns c = cc
