-- `first_open` meets its contract: a loop of turns. Assumes nothing.
use Prim.Native.Nat.{◌-◌}
use lib.ListN.{length}
use Rattle.common.specs.Turning.{Stands}
use Rattle.fence.specs.Fence.{open_turn}
use Rattle.fence.specs.Laws.{Lies}
use Rattle.fence.proofs.FenceIter.first_open.Given as goal

abbrev pub invariant-loop-n : goal.invariant-loop-n
invariant-loop-n l = Stands Lies (open_turn l.self l.src) (length l.src) l.self.pos l.q

abbrev pub decreases-loop-n : goal.decreases-loop-n
decreases-loop-n l = length l.src - l.q
