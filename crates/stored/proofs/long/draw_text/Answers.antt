-- `draw_text` meets its contract. Assumes nothing.
use Rattle.stored.specs.LongLaws.{draws_first, draws_again, draws_all}
use Rattle.stored.proofs.long.draw_text.Goals as goal

pub loop-i-init : goal.loop-i-init
loop-i-init c = search draws_first

pub loop-i-preserved : goal.loop-i-preserved
loop-i-preserved c = search draws_again

pub returns : goal.returns
returns c = search draws_all
