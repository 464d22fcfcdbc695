-- `put_symmetric` meets its contract: rules are laid from the last to the first. Assumes nothing.
use Rattle.rules.specs.RowLaws.{laying_first, twin_hides, twins_again, laying_all}
use Rattle.rules.proofs.rows.put_symmetric.Goals as goal

pub loop-i-init : goal.loop-i-init
loop-i-init g c = search (laying_first, twin_hides)

pub loop-i-preserved : goal.loop-i-preserved
loop-i-preserved g c = search twins_again

pub returns : goal.returns
returns g c = search laying_all
