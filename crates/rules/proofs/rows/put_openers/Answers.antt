-- `put_openers` meets its contract: rules are laid from the last to the first. Assumes nothing.
use Rattle.rules.specs.RowLaws.{opening-first, opening_again, opening-all}
use Rattle.rules.proofs.rows.put_openers.Goals as goal

pub loop-i-init : goal.loop-i-init
loop-i-init g c = search opening-first

pub loop-i-preserved : goal.loop-i-preserved
loop-i-preserved g c = search opening_again

pub returns : goal.returns
returns g c = search opening-all
