-- `write_regions` meets its contract: a loop that writes. Assumes nothing.
use Rattle.region.specs.LoopLaws.{row-wide, pouring_first, pouring_next, pouring_less, pouring_end, pouring_same}
use Rattle.context.specs.BuildLaws.{region_fits}
use Rattle.context.proofs.write_regions.Goals as goal

pub loop-r-init : goal.loop-r-init
loop-r-init c = search (pouring_first, row-wide)

pub put_region-found-requires : goal.put_region-found-requires
put_region-found-requires c = search region_fits

pub loop-r-smaller : goal.loop-r-smaller
loop-r-smaller c = search pouring_less

pub loop-r-preserved : goal.loop-r-preserved
loop-r-preserved c = search pouring_next

pub shape_of-out-in-None : goal.shape_of-out-in-None
shape_of-out-in-None c = search pouring_same

pub returns-in-None : goal.returns-in-None
returns-in-None c = search pouring_end
