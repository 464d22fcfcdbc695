-- `region_turn` meets its contract. Assumes nothing.
use Rattle.region.specs.StepLaws.{turn_stop, turn_fence, turn-inline}
use Rattle.region.proofs.region_turn.Goals as goal

pub returns-then-p-src : goal.returns-then-p-src
returns-then-p-src c = search turn_stop

pub returns-in-Some : goal.returns-in-Some
returns-in-Some c = search turn_fence

pub returns-in-None : goal.returns-in-None
returns-in-None c = search turn-inline
