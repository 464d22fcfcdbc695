-- `next_region` meets its contract: a loop of turns that remembers. Assumes nothing.
use Prim.Native.Nat.{◌-◌}
use lib.ListN.{length}
use Rattle.rules.specs.Tables.{gram_in}
use Rattle.region.specs.MemoryLaws.{Recalls}
use Rattle.region.proofs.next_region.Given as goal

abbrev pub invariant-loop-next : goal.invariant-loop-next
invariant-loop-next l = Recalls (gram_in l.tables) l.src l.initial.dead l.from l.dead l.q

abbrev pub decreases-loop-next : goal.decreases-loop-next
decreases-loop-next l = length l.src - l.q
