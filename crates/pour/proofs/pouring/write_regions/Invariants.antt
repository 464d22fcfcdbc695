-- `write_regions` meets its contract: a loop that writes. Assumes nothing.
use Prim.Native.Nat.{◌-◌}
use lib.ListN.{length}
use Rattle.rules.specs.Tables.{gram_in}
use Rattle.region.specs.LoopLaws.{Pouring}
use Rattle.pour.specs.Building.{region_bytes}
use Rattle.cells.specs.Bytes.{row_bytes}
use Rattle.pour.proofs.pouring.write_regions.Given as goal

abbrev pub invariant-loop-r : goal.invariant-loop-r
invariant-loop-r l = Pouring region_bytes row_bytes (gram_in l.tables) l.text l.dead l.initial.out l.out l.found l.q

abbrev pub decreases-loop-r : goal.decreases-loop-r
decreases-loop-r l = length l.text - l.q
