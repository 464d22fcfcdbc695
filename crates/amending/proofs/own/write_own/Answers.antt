-- `write_own` meets its contract: a loop of steps that writes. Assumes nothing.
use Rattle.amend.specs.OwnLaws.{moving_first, moving_same, moving_end, moving_less, moving_again}
use Rattle.amending.specs.WriteLaws.{listed_long, moving_puts_bytes}
use Rattle.amending.proofs.own.write_own.Goals as goal

pub loop-r-init : goal.loop-r-init
loop-r-init c = search (moving_first, listed_long)

pub shape_of-out-in-None : goal.shape_of-out-in-None
shape_of-out-in-None c = search moving_same

pub returns-in-None : goal.returns-in-None
returns-in-None c = search moving_end

pub put_moved-at-requires : goal.put_moved-at-requires
put_moved-at-requires c = search moving_puts_bytes

pub loop-r-smaller : goal.loop-r-smaller
loop-r-smaller c = search moving_less

pub loop-r-preserved : goal.loop-r-preserved
loop-r-preserved c = search moving_again
