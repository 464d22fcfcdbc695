-- `read_digits` meets its contract: a loop that reads digits. Assumes nothing.
use Prim.Native.Nat.{◌-◌}
use lib.ListN.{length}
use Rattle.block_numbered.specs.DigitLaws.{DigitsReading}
use Rattle.block_numbered.proofs.read_digits.Given as goal

abbrev pub invariant-loop-i : goal.invariant-loop-i
invariant-loop-i l = DigitsReading l.line l.from l.i l.number

abbrev pub decreases-loop-i : goal.decreases-loop-i
decreases-loop-i l = length l.line - l.i
