-- `asym_close` meets its contract: a loop of turns. Assumes nothing.
use Rattle.common.specs.TurnLaws.{stands_first, stands_less, stands_again, stands_stop, stands_found}
use Rattle.region.specs.Views.{view_pair}
use Rattle.region.specs.Ahead.{asym_turn-ahead}
use Rattle.region.proofs.pairs.asym_close.Goals as goal

pub loop-n-init : goal.loop-n-init
loop-n-init c = search (stands_first, asym_turn-ahead)

pub loop-n-smaller : goal.loop-n-smaller
loop-n-smaller c = search (stands_less view_pair)

pub loop-n-preserved : goal.loop-n-preserved
loop-n-preserved c = search (stands_again view_pair)

pub returns-in-Close : goal.returns-in-Close
returns-in-Close c = search (stands_found view_pair)

pub returns-in-End : goal.returns-in-End
returns-in-End c = search (stands_stop view_pair)
