-- `upto` meets its contract: a loop that searches by a test, up to a place. Assumes nothing.
use Rattle.find.specs.Blocks.{of_three, Reaches}
use Rattle.find.proofs.blocks.upto.Given as goal

abbrev pub invariant-loop-i : goal.invariant-loop-i
invariant-loop-i l = Reaches (of_three l.t) l.src l.from l.end l.i
