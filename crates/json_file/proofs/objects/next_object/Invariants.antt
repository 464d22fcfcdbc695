-- `next_object` meets its contract: a loop that steps over bytes. Assumes nothing.
use Prim.Native.Nat.{◌-◌}
use lib.ListN.{length}
use Rattle.json_file.specs.WalkLaws.{Underway}
use Rattle.json_file.proofs.objects.next_object.Given as goal

abbrev pub invariant-loop-i : goal.invariant-loop-i
invariant-loop-i l = Underway l.file l.from l.initial.g l.i l.g

abbrev pub decreases-loop-i : goal.decreases-loop-i
decreases-loop-i l = length l.file - l.i
