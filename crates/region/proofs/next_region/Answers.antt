-- `next_region` meets its contract: a loop of turns that remembers. Assumes nothing.
use Rattle.region.specs.MemoryLaws.{recalls_first, recalls_past, recalls_less, recalls_go, recalls_lost_less, recalls_lost, recalls_stop, recalls_found}
use Rattle.region.proofs.next_region.Goals as goal

pub returns-then-from-len : goal.returns-then-from-len
returns-then-from-len c = search recalls_past

pub loop-next-init : goal.loop-next-init
loop-next-init c = search recalls_first

pub loop-next-smaller-in-Go : goal.loop-next-smaller-in-Go
loop-next-smaller-in-Go c = search recalls_less

pub loop-next-preserved-in-Go : goal.loop-next-preserved-in-Go
loop-next-preserved-in-Go c = search recalls_go

pub loop-next-smaller : goal.loop-next-smaller
loop-next-smaller c = search recalls_lost_less

pub loop-next-preserved : goal.loop-next-preserved
loop-next-preserved c = search recalls_lost

pub returns-in-Stop : goal.returns-in-Stop
returns-in-Stop c = search recalls_stop

pub returns-in-Made : goal.returns-in-Made
returns-in-Made c = search recalls_found
