-- `Long::with_run` meets its contract. Assumes nothing.
use Rattle.stored.specs.LongLaws.{counted_first, counted_again, counted_over}
use Rattle.stored.proofs.long.Long.with_run.Goals as goal

pub loop-init : goal.loop-init
loop-init c = search counted_first

pub loop-preserved : goal.loop-preserved
loop-preserved c = search counted_again

pub returns : goal.returns
returns c = search counted_over
