-- `probe_matcher` meets its contract. Assumes nothing.
use Rattle.common.specs.TableLaws.{Probing}
use Rattle.common.proofs.sets.probe_matcher.Given as goal

abbrev pub invariant-loop-b : goal.invariant-loop-b
invariant-loop-b l = Probing l.matches l.needles l.n l.b
