-- `moved` meets its contract. Assumes nothing.
use Rattle.panel.specs.StateLaws.{moved-short, moved-values}
use Rattle.panel.proofs.states.moved.Goals as goal

pub returns-then-all-room_of : goal.returns-then-all-room_of
returns-then-all-room_of c = search moved-values

pub returns : goal.returns
returns c = search moved-short
