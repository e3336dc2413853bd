-- The definitions answer each starred example as document 01 says. Assumes nothing.
use mathlib.Core.Path.{◌≡◌, refl}
use mathlib.Core.List.{map}
use Rattle.examples.specs.Starred.{questions, answers, outcome}
use Rattle.examples.proofs.Runs.{runs}

pub starred : map outcome questions ≡ answers
unfolding questions answers runs
starred = refl
