-- `pass` meets its contract: a loop over blocks. Assumes nothing.
use Rattle.find.specs.BlockLaws.{reach_first, reach_clear}
use Rattle.find.proofs.blocks.pass.Goals as goal

pub loop-i-init : goal.loop-i-init
loop-i-init c = search reach_first

pub loop-i-preserved : goal.loop-i-preserved
loop-i-preserved c = search reach_clear
