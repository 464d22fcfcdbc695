-- `in_runs` meets its contract: the runs that are left make of the text so far what all make of none. Assumes nothing.
use Rattle.std.proofs.Common.{◌≡◌, length}
use Rattle.stored.specs.Long.{no_text, in_runs}
use Rattle.stored.proofs.long.in_runs.Given as goal

abbrev pub invariant-loop-left : goal.invariant-loop-left
invariant-loop-left l = in_runs no_text l.runs ≡ in_runs l.text l.left

abbrev pub decreases-loop-left : goal.decreases-loop-left
decreases-loop-left l = length l.left
