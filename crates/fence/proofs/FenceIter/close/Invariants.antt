-- `close` meets its contract. Assumes nothing.
use Prim.Native.Nat.{◌-◌}
use lib.ListN.{length}
use Rattle.fence.specs.Laws.{FenceCloses}
use Rattle.fence.proofs.FenceIter.close.Given as goal

abbrev pub invariant-loop-self : goal.invariant-loop-self
invariant-loop-self l = FenceCloses l.self l.count l.src l.from l.search

abbrev pub decreases-loop-self : goal.decreases-loop-self
decreases-loop-self l = length l.src - l.search
