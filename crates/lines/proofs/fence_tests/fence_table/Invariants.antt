-- `fence_table` meets its contract: the table is filled from the last rule to the first. Assumes nothing.
use Rattle.lines.specs.RuleLaws.{TableFilled}
use Rattle.lines.proofs.fence_tests.fence_table.Given as goal

abbrev pub invariant-loop-i : goal.invariant-loop-i
invariant-loop-i l = TableFilled l.bytes l.mins l.fences l.i
