-- `sym_pair` meets its contract. Assumes nothing.
use Rattle.region.specs.StepLaws.{pair_other, pair_known, pair_sought}
use Rattle.region.proofs.sym_pair.Goals as goal

pub returns-then-r-p : goal.returns-then-r-p
returns-then-r-p c = search pair_other

pub returns-then-r-sought_to : goal.returns-then-r-sought_to
returns-then-r-sought_to c = search pair_known

pub returns : goal.returns
returns c = search pair_sought
