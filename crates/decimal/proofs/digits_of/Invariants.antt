-- `digits_of` meets its contract: each turn sets the last digit of what is left. Assumes nothing.
use Rattle.decimal.specs.WritingLaws.{Filling}
use Rattle.decimal.proofs.digits_of.Given as goal

abbrev pub invariant-loop-i : goal.invariant-loop-i
invariant-loop-i l = Filling l.x l.bytes l.rest l.i
