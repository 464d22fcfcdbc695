-- `first_open` meets its contract: a loop of turns. Assumes nothing.
use Rattle.common.specs.TurnLaws.{stands_first, stands_less, stands_again, stands_stop, stands_found}
use Rattle.fence.specs.Fence.{view}
use Rattle.fence.specs.Laws.{turn_adv}
use Rattle.fence.proofs.FenceIter.first_open.Goals as goal

pub loop-n-init : goal.loop-n-init
loop-n-init c = search (stands_first, turn_adv)

pub loop-n-smaller : goal.loop-n-smaller
loop-n-smaller c = search (stands_less view)

pub loop-n-preserved : goal.loop-n-preserved
loop-n-preserved c = search (stands_again view)

pub returns-in-Stop : goal.returns-in-Stop
returns-in-Stop c = search (stands_stop view)

pub returns-in-Found : goal.returns-in-Found
returns-in-Found c = search (stands_found view)
