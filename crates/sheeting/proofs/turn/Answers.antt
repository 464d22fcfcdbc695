-- `turn` meets its contract: its three ways out. Assumes nothing.
use Rattle.sheeting.specs.SheetingLaws.{item_hides, turned_end, turned_hidden, turned_shown}
use Rattle.sheeting.proofs.turn.Goals as goal

pub pass-hider-requires : goal.pass-hider-requires
pass-hider-requires c = search item_hides

pub returns-then-hides : goal.returns-then-hides
returns-then-hides c = search turned_hidden

pub returns-in-None : goal.returns-in-None
returns-in-None c = search turned_end

pub returns-else-hides : goal.returns-else-hides
returns-else-hides c = search turned_shown
