-- `asym_pair` meets its contract. Assumes nothing.
use Rattle.region.specs.StepLaws.{apair_other, apair_known, apair_sought}
use Rattle.region.proofs.asym_pair.Goals as goal

pub returns-then-r-p : goal.returns-then-r-p
returns-then-r-p c = search apair_other

pub returns-then-r-sought_to : goal.returns-then-r-sought_to
returns-then-r-sought_to c = search apair_known

pub returns : goal.returns
returns c = search apair_sought
