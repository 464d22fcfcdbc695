-- `fence_table` meets its contract: the table is filled from the last rule to the first. Assumes nothing.
use Rattle.lines.specs.RuleLaws.{filled-first, filled_again, filled-all}
use Rattle.lines.proofs.fence_tests.fence_table.Goals as goal

pub loop-i-init : goal.loop-i-init
loop-i-init c = search filled-first

pub loop-i-preserved : goal.loop-i-preserved
loop-i-preserved c = search filled_again

pub returns : goal.returns
returns c = search filled-all
