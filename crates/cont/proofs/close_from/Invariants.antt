-- `close_from` meets its contract: the innermost frame is stored first. Assumes nothing.
use Rattle.cont.specs.TurnLaws.{ClosingAt}
use Rattle.cont.proofs.close_from.Given as goal

abbrev pub invariant-loop-n : goal.invariant-loop-n
invariant-loop-n l = ClosingAt l.open l.from l.held l.end l.initial.out l.out l.n
