-- `count_regions` meets its contract: a loop that counts. Assumes nothing.
use Prim.Native.Nat.{◌-◌}
use lib.ListN.{length}
use Rattle.rules.specs.Tables.{gram_in}
use Rattle.region.specs.LoopLaws.{Counting}
use Rattle.region.proofs.count_regions.Given as goal

abbrev pub invariant-loop-next : goal.invariant-loop-next
invariant-loop-next l = Counting (gram_in l.tables) l.src l.dead l.found l.q

abbrev pub decreases-loop-next : goal.decreases-loop-next
decreases-loop-next l = length l.src - l.q
