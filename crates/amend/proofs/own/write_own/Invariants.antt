-- `write_own` meets its contract: a loop of steps that writes. Assumes nothing.
use Prim.Native.Nat.{◌-◌}
use lib.ListN.{length}
use Rattle.common.specs.Entry.{wide}
use Rattle.rules.specs.Tables.{gram_in}
use Rattle.region.specs.Region.{row}
use Rattle.amend.specs.OwnLaws.{Moving}
use Rattle.amend.proofs.own.write_own.Given as goal

abbrev pub invariant-loop-r : goal.invariant-loop-r
invariant-loop-r l = Moving row wide (gram_in l.tables) l.text l.dead l.by l.into l.initial.out l.out l.at l.q

abbrev pub decreases-loop-r : goal.decreases-loop-r
decreases-loop-r l = length l.text - l.q
