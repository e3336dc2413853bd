use Rattle.std.proofs.Common.{arith}
use Rattle.std.proofs.lemmas.Grind.{common_steps}
use Rattle.shell_text.specs.Commands.{with_feed}
use Rattle.shell_text.proofs.commands.with_feed.Goals as goal

pub returns-then-second-lt-NUMBER_LIMIT : goal.returns-then-second-lt-NUMBER_LIMIT
unfolding with_feed
returns-then-second-lt-NUMBER_LIMIT c = grind (arith, common_steps)

pub returns : goal.returns
unfolding with_feed
returns c = grind (arith, common_steps)
