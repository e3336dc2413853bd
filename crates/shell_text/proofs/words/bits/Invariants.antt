use mathlib.Core.Path.{◌≡◌}
use lib.ListN.{drop}
use Rattle.shell_text.specs.Words.{bits_of, bits_from}
use Rattle.shell_text.proofs.words.bits.Given as goal

abbrev pub invariant-loop-b : goal.invariant-loop-b
invariant-loop-b l = bits_of l.word ≡ bits_from l.n (drop l.b-index l.word)
