-- `nearest` meets its contract: a loop that keeps the least place of a hit. Assumes nothing.
use Rattle.find.specs.BlockLaws.{least_first, least_step, least_stage}
use Rattle.find.proofs.blocks.nearest.Goals as goal

pub loop-j-init : goal.loop-j-init
loop-j-init c = search least_first

pub loop-j-preserved : goal.loop-j-preserved
loop-j-preserved c = search least_step

pub returns : goal.returns
returns c = search least_stage
