-- `reaches_place` meets its contract. Assumes nothing.
use Rattle.amend.specs.RowLaws.{reached_none, reached_last, reached_inside}
use Rattle.amending.proofs.joints.reaches_place.Goals as goal

pub number-requires : goal.number-requires
number-requires c = search reached_inside

pub returns-then-n-gt0 : goal.returns-then-n-gt0
returns-then-n-gt0 c = search reached_last

pub returns-else-n-gt0 : goal.returns-else-n-gt0
returns-else-n-gt0 c = search reached_none
