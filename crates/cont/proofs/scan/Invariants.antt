-- `scan` meets its contract: a loop of turns. Assumes nothing.
use Prim.Native.Nat.{◌-◌}
use lib.ListN.{length}
use Rattle.cont.specs.Cont.{stand}
use Rattle.cont.specs.TurnLaws.{Scans}
use Rattle.cont.proofs.scan.Given as goal

abbrev pub invariant-loop-p : goal.invariant-loop-p
invariant-loop-p l = Scans l.m l.src (stand l.from l.initial.open l.held) (stand l.pos l.open l.n)

abbrev pub decreases-loop-p : goal.decreases-loop-p
decreases-loop-p l = length l.src - l.pos
