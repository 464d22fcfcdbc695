-- `open_from` meets its contract: the markers behind the open frames are stored. Assumes nothing.
use Prim.Native.Nat.{◌-◌}
use Rattle.cont.specs.MarkLaws.{OpeningFrames}
use Rattle.cont.proofs.open_from.Given as goal

abbrev pub invariant-loop-n : goal.invariant-loop-n
invariant-loop-n l = OpeningFrames l.m l.src l.le l.from l.held l.initial.open l.open l.cur l.n

abbrev pub decreases-loop-n : goal.decreases-loop-n
decreases-loop-n l = l.m.cap - l.n
