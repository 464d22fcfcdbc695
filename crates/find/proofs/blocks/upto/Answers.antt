-- `upto` meets its contract: a loop that searches by a test, up to a place. Assumes nothing.
use Rattle.find.specs.BlockLaws.{reach_first, reach_again, reach_found, reach_end}
use Rattle.find.proofs.blocks.upto.Goals as goal

pub loop-i-init : goal.loop-i-init
loop-i-init c = search reach_first

pub returns-then-is_of_three : goal.returns-then-is_of_three
returns-then-is_of_three c = search reach_found

pub loop-i-preserved : goal.loop-i-preserved
loop-i-preserved c = search reach_again

pub returns : goal.returns
returns c = search reach_end
