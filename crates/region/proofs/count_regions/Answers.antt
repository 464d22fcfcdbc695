-- `count_regions` meets its contract: a loop that counts. Assumes nothing.
use Rattle.region.specs.LoopLaws.{counting-first, counting-next, counting_less, counting_end}
use Rattle.region.proofs.count_regions.Goals as goal

pub loop-next-init : goal.loop-next-init
loop-next-init c = search counting-first

pub loop-next-smaller : goal.loop-next-smaller
loop-next-smaller c = search counting_less

pub loop-next-preserved : goal.loop-next-preserved
loop-next-preserved c = search counting-next

pub returns-in-None : goal.returns-in-None
returns-in-None c = search counting_end
