-- `put_fences` meets its contract: rules are laid from the last to the first. Assumes nothing.
use Rattle.rules.specs.RowLaws.{laying_first, fencer_hides, fences_again, laying_all}
use Rattle.rules.proofs.rows.put_fences.Goals as goal

pub loop-i-init : goal.loop-i-init
loop-i-init c = search (laying_first, fencer_hides)

pub loop-i-preserved : goal.loop-i-preserved
loop-i-preserved c = search fences_again

pub returns : goal.returns
returns c = search laying_all
