-- `write_own` meets its contract: a loop of steps that writes. Assumes nothing.
use Prim.Native.Nat.{◌-◌}
use lib.ListN.{length}
use Rattle.rules.specs.Tables.{gram_in}
use Rattle.cells.specs.Bytes.{row_bytes}
use Rattle.amend.specs.OwnLaws.{Moving}
use Rattle.amending.specs.Amending.{listed_bytes}
use Rattle.amending.proofs.own.write_own.Given as goal

abbrev pub invariant-loop-r : goal.invariant-loop-r
invariant-loop-r l = Moving listed_bytes row_bytes (gram_in l.tables) l.text l.dead l.by l.into l.initial.out l.out l.at l.q

abbrev pub decreases-loop-r : goal.decreases-loop-r
decreases-loop-r l = length l.text - l.q
