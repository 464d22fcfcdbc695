-- `nine_before` meets its contract: a loop that walks back, and adds. Assumes nothing.
use Rattle.block_numbered.specs.DigitLaws.{Walking}
use Rattle.block_numbered.proofs.nine_before.Given as goal

abbrev pub invariant-loop-k : goal.invariant-loop-k
invariant-loop-k l = Walking l.src l.p l.k l.number

abbrev pub decreases-loop-k : goal.decreases-loop-k
decreases-loop-k l = l.k
