-- `survey` meets its contract: a loop of steps that counts. Assumes nothing.
use Prim.Native.Nat.{◌-◌}
use lib.ListN.{length}
use Rattle.rules.specs.Tables.{gram_in}
use Rattle.amend.specs.OwnLaws.{Surveying}
use Rattle.amend.proofs.own.survey.Given as goal

abbrev pub invariant-loop-r : goal.invariant-loop-r
invariant-loop-r l = Surveying (gram_in l.tables) l.text l.dead l.found l.reaching l.q

abbrev pub decreases-loop-r : goal.decreases-loop-r
decreases-loop-r l = length l.text - l.q
