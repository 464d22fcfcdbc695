-- `lay_pending` meets its contract: a loop that lays spans. Assumes nothing.
use borrow.Author.Rules.{rules}
use Rattle.panel.specs.ContStateLaws.{pending_first, pending_again, pending_all}
use Rattle.panel.proofs.cont_state.lay_pending.Goals as goal

pub loop-i-init : goal.loop-i-init
loop-i-init c = search (pending_first, rules)

pub loop-i-preserved : goal.loop-i-preserved
loop-i-preserved c = search (pending_again, rules)

pub returns : goal.returns
returns c = search (pending_all, rules)
