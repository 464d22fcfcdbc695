-- `lay_open` meets its contract: a loop that lays numbers. Assumes nothing.
use borrow.Author.Rules.{rules}
use Rattle.panel.specs.ContStateLaws.{open_first, open_again, open_all}
use Rattle.panel.proofs.cont_state.lay_open.Goals as goal

pub loop-i-init : goal.loop-i-init
loop-i-init c = search (open_first, rules)

pub loop-i-preserved : goal.loop-i-preserved
loop-i-preserved c = search (open_again, rules)

pub returns : goal.returns
returns c = search (open_all, rules)
