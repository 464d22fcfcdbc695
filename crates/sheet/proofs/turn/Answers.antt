-- `turn` meets its contract: its three ways out. Assumes nothing.
use Rattle.sheet.specs.ShowLaws.{turn_end, turn_hidden, turn_shown}
use Rattle.sheet.proofs.turn.Goals as goal

pub returns-then-h : goal.returns-then-h
returns-then-h g c = search turn_hidden

pub returns-in-None : goal.returns-in-None
returns-in-None g c = search turn_end

pub returns-else-h : goal.returns-else-h
returns-else-h g c = search turn_shown
