-- `asym_close` meets its contract: a loop of turns. Assumes nothing.
use Prim.Native.Nat.{◌-◌}
use lib.ListN.{length}
use Rattle.common.specs.Turning.{Stands}
use Rattle.region.specs.Regions.{asym_turn}
use Rattle.region.specs.Parts.{fence_gram}
use Rattle.region.specs.Ahead.{Meets}
use Rattle.region.proofs.pairs.asym_close.Given as goal

abbrev pub invariant-loop-n : goal.invariant-loop-n
invariant-loop-n l = Stands Meets (asym_turn (fence_gram l.g l.fences) l.src l.close) (length l.src) l.from l.j

abbrev pub decreases-loop-n : goal.decreases-loop-n
decreases-loop-n l = length l.src - l.j
