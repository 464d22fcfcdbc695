-- `check` meets its contract: a loop that goes from object to object. Assumes nothing.
use Prim.Native.Nat.{◌-◌}
use lib.ListN.{length}
use Rattle.json_file.specs.CheckLaws.{Checks}
use Rattle.json_file.proofs.check.check.Given as goal

abbrev pub invariant-loop-a : goal.invariant-loop-a
invariant-loop-a l = Checks l.file l.i l.g l.n l.low l.good

abbrev pub decreases-loop-a : goal.decreases-loop-a
decreases-loop-a l = length l.file - l.i
