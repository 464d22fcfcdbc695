-- `line_turn` meets its contract. Assumes nothing.
use Rattle.cont.specs.TurnLaws.{line-closes, line-opens}
use Rattle.cont.proofs.line_turn.Goals as goal

pub returns-then-count-held : goal.returns-then-count-held
returns-then-count-held c = search line-closes

pub returns : goal.returns
returns c = search line-opens
