-- `read_open` meets its contract: a loop that fills an array. Assumes nothing.
use borrow.Author.Rules.{rules}
use Rattle.cells.specs.ByteLaws.{fills_first}
use Rattle.panel.specs.ContStateLaws.{read_open_again, read_open_all}
use Rattle.panel.proofs.cont_state.read_open.Goals as goal

pub loop-i-init : goal.loop-i-init
loop-i-init c = search (fills_first, rules)

pub loop-i-preserved : goal.loop-i-preserved
loop-i-preserved c = search read_open_again

pub returns : goal.returns
returns c = search read_open_all
