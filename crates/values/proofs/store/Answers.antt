use native.Mathlib.Omega.{arith}
use Rattle.values.proofs.Stored.{laid-outside, laid_one}
use Rattle.values.proofs.store.Goals as goal

pub returns-then-j-saturating_sub : goal.returns-then-j-saturating_sub
returns-then-j-saturating_sub c = laid_one _ _ _ _ c.store.ensures

pub returns-else-j-saturating_sub : goal.returns-else-j-saturating_sub
returns-else-j-saturating_sub c = laid-outside _ _ _ (omega (arith, c.saturating_sub.ensures))
