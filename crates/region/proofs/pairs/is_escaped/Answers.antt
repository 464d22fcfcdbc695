-- `is_escaped` meets its contract. Assumes nothing.
use Rattle.region.specs.StepLaws.{odd_told}
use Rattle.region.proofs.pairs.is_escaped.Goals as goal

pub returns : goal.returns
returns c = search odd_told
