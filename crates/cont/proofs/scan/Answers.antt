-- `scan` meets its contract: a loop of turns. Assumes nothing.
use Rattle.cont.specs.TurnLaws.{scans_first, scans_again, scans_less, scans_close, scans_stop}
use Rattle.cont.proofs.scan.Goals as goal

pub loop-p-init : goal.loop-p-init
loop-p-init c = search scans_first

pub loop-p-smaller : goal.loop-p-smaller
loop-p-smaller c = search scans_less

pub loop-p-preserved : goal.loop-p-preserved
loop-p-preserved c = search scans_again

pub returns-in-Close : goal.returns-in-Close
returns-in-Close c = search scans_close

pub returns-in-Stop : goal.returns-in-Stop
returns-in-Stop c = search scans_stop
