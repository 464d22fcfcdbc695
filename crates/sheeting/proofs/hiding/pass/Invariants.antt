-- `pass` meets its contract: a loop of steps. Assumes nothing.
use Prim.Native.Nat.{◌-◌}
use lib.ListN.{length}
use Rattle.rules.specs.Tables.{gram_in}
use Rattle.sheeting.specs.HidingLaws.{Passing}
use Rattle.sheeting.proofs.hiding.pass.Given as goal

abbrev pub invariant-loop-h : goal.invariant-loop-h
invariant-loop-h l = Passing (gram_in l.tables) l.text l.dead l.place l.h

abbrev pub decreases-loop-h : goal.decreases-loop-h
decreases-loop-h l = length l.text - l.h.next
