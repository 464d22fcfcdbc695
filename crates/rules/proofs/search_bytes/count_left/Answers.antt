-- `count_left` meets its contract: a loop over the 256 bytes. Assumes nothing.
use Rattle.rules.specs.LeftOutLaws.{below_first, below_fits, below_again, below_all}
use Rattle.rules.proofs.search_bytes.count_left.Goals as goal

pub loop-x-init : goal.loop-x-init
loop-x-init c = search below_first

pub overflow_add-n : goal.overflow_add-n
overflow_add-n c = search below_fits

pub loop-x-preserved : goal.loop-x-preserved
loop-x-preserved c = search below_again

pub returns : goal.returns
returns c = search below_all
