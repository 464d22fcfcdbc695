-- `write_regions` meets its contract: a loop that writes. Assumes nothing.
use Prim.Native.Nat.{◌-◌}
use lib.ListN.{length}
use Rattle.rules.specs.Tables.{gram_in}
use Rattle.region.specs.Region.{row_of}
use Rattle.region.specs.LoopLaws.{Pouring}
use Rattle.common.specs.Entry.{wide}
use Rattle.context.proofs.write_regions.Given as goal

abbrev pub invariant-loop-r : goal.invariant-loop-r
invariant-loop-r l = Pouring row_of wide (gram_in l.tables) l.src l.dead l.initial.out l.out l.found l.q

abbrev pub decreases-loop-r : goal.decreases-loop-r
decreases-loop-r l = length l.src - l.q
