-- `byte_set` meets its contract: a set that gains the accepted bytes. Assumes nothing.
use Rattle.common.specs.TableLaws.{Gained}
use Rattle.common.proofs.sets.byte_set.Given as goal

abbrev pub invariant-loop-b : goal.invariant-loop-b
invariant-loop-b l = Gained l.accepted l.set l.b-index
