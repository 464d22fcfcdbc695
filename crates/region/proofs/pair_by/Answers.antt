-- `pair_by` meets its contract. Assumes nothing.
use Rattle.region.specs.StepLaws.{close_made, close_lost}
use Rattle.region.proofs.pair_by.Goals as goal

pub returns-in-At : goal.returns-in-At
returns-in-At c = search close_made

pub returns-in-End : goal.returns-in-End
returns-in-End c = search close_lost
