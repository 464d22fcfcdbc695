-- `nearest` meets its contract: a loop that keeps the least place of a hit. Assumes nothing.
use Rattle.find.specs.Blocks.{of_twelve}
use Rattle.find.specs.BlockLaws.{Least}
use Rattle.find.proofs.blocks.nearest.Given as goal

abbrev pub invariant-loop-j : goal.invariant-loop-j
invariant-loop-j l = Least (of_twelve l.k) l.src l.i l.j l.least
