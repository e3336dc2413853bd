use mathlib.Core.List.{◌++◌}
use Prim.Native.Nat.{◌-◌}
use Rattle.text_out.specs.Output.{Goes}
use Rattle.shell_text.specs.Words.{bits_text, top_digits}
use Rattle.shell_text.proofs.words.put_bits.Given as goal

-- What is left are the digits behind the first `counter`.
abbrev pub invariant-loop : goal.invariant-loop
invariant-loop l = Goes (λ t. bits_text l.n ++ t) (λ t. top_digits (16 - l.counter) l.rest ++ t) l.at l.initial.out l.out l.held
