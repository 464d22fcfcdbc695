-- `peel` meets its contract: the markers are followed as far as they go. Assumes nothing.
use Prim.Native.Nat.{◌-◌}
use Rattle.cont.specs.MarkLaws.{Peeling}
use Rattle.cont.proofs.peel.Given as goal

abbrev pub invariant-loop-count : goal.invariant-loop-count
invariant-loop-count l = Peeling l.m l.src l.le l.ls l.held l.count l.cur

abbrev pub decreases-loop-count : goal.decreases-loop-count
decreases-loop-count l = l.held - l.count
