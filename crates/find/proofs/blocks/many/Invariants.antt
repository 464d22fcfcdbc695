-- `many` meets its contract: a loop over blocks. Assumes nothing.
use mathlib.Core.Path.{◌≡◌}
use Prim.Native.Nat.{◌-◌, max}
use lib.ListN.{length}
use Rattle.find.specs.Blocks.{of_twelve, Reaches}
use Rattle.find.proofs.blocks.many.Given as goal

abbrev pub invariant-loop-i : goal.invariant-loop-i
invariant-loop-i l = (l.len ≡ length l.src) × Reaches (of_twelve l.k) l.src l.from (max l.from (length l.src)) l.i

abbrev pub decreases-loop-i : goal.decreases-loop-i
decreases-loop-i l = length l.src - l.i
