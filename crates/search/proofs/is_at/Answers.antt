-- `is_at` meets its contract. Assumes nothing.
use Rattle.std.proofs.lemmas.Grind.{common_steps}
use Rattle.std.proofs.lemmas.Option.{gets}
use native.Mathlib.Omega.{arith}
use Rattle.search.specs.Search.{is, holds}
use Rattle.search.proofs.is_at.Goals as goal

pub returns : goal.returns
unfolding is holds
returns c = grind (arith, common_steps, gets)
