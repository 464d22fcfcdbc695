-- `class_set` meets its contract. Assumes nothing.
use Rattle.common.specs.TableLaws.{Classed}
use Rattle.common.proofs.sets.class_set.Given as goal

abbrev pub invariant-loop-b : goal.invariant-loop-b
invariant-loop-b l = Classed l.wanted l.has-items l.b
