-- `close_from` meets its contract: the innermost frame is stored first. Assumes nothing.
use Rattle.cont.specs.TurnLaws.{closing_start, closing_on, closing_all}
use Rattle.cont.proofs.close_from.Goals as goal

pub loop-n-init : goal.loop-n-init
loop-n-init c = search closing_start

pub loop-n-preserved : goal.loop-n-preserved
loop-n-preserved c = search closing_on

pub returns : goal.returns
returns c = search closing_all
