-- `byte_set` meets its contract: a set that gains the accepted bytes. Assumes nothing.
use Rattle.common.specs.TableLaws.{gained-first, gained_again, gained-all}
use Rattle.common.proofs.sets.byte_set.Goals as goal

pub loop-b-init : goal.loop-b-init
loop-b-init c = search gained-first

pub loop-b-preserved : goal.loop-b-preserved
loop-b-preserved c = search gained_again

pub returns : goal.returns
returns c = search gained-all
