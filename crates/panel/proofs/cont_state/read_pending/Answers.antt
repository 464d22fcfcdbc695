-- `read_pending` meets its contract: a loop that fills an array. Assumes nothing.
use borrow.Author.Rules.{rules}
use Rattle.cells.specs.ByteLaws.{fills_first}
use Rattle.panel.specs.ContStateLaws.{read_pending_again, read_pending_all}
use Rattle.panel.proofs.cont_state.read_pending.Goals as goal

pub loop-i-init : goal.loop-i-init
loop-i-init c = search (fills_first, rules)

pub loop-i-preserved : goal.loop-i-preserved
loop-i-preserved c = search read_pending_again

pub returns : goal.returns
returns c = search read_pending_all
