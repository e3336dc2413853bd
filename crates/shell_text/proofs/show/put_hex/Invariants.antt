use lib.ListN.{drop}
use Rattle.text_out.specs.Output.{Goes}
use Rattle.shell_text.specs.Show.{hex_text}
use Rattle.shell_text.proofs.show.put_hex.Given as goal

-- What is left are the digits of the bytes from index b-index on.
abbrev pub invariant-loop-b : goal.invariant-loop-b
invariant-loop-b l = Goes (hex_text l.bytes) (hex_text (drop l.b-index l.bytes)) l.at l.initial.out l.out l.held
