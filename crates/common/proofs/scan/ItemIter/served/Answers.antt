-- `served` meets its contract: a loop of turns. Assumes nothing.
use Rattle.common.specs.Kinds.{scanner_of, view}
use Rattle.common.specs.LaterLaws.{unled_first}
use Rattle.common.specs.ScanningLaws.{turn_adv, served_stop, served_found}
use Rattle.common.specs.TurnLaws.{stands_first, stands_less, stands_again, stands_stop, stands_found}
use Rattle.common.proofs.scan.ItemIter.served.Goals as goal

pub loop-n-init : goal.loop-n-init
loop-n-init g c = search (stands_first, turn_adv g.met.K.ItemKind.lawful, unled_first)

pub loop-n-smaller : goal.loop-n-smaller
loop-n-smaller g c = search (stands_less (view g.K.ItemKind.make))

pub loop-n-preserved : goal.loop-n-preserved
loop-n-preserved g c = search (stands_again (view g.K.ItemKind.make))

pub returns-in-Stop : goal.returns-in-Stop
returns-in-Stop g c = search (served_stop (scanner_of g.row.K.Denot g.K.ItemKind.reading), stands_stop (view g.K.ItemKind.make))

pub returns-in-Found : goal.returns-in-Found
returns-in-Found g c = search (served_found (scanner_of g.row.K.Denot g.K.ItemKind.reading), stands_found (view g.K.ItemKind.make))
