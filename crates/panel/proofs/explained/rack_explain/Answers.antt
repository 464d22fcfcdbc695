-- `rack_explain` meets its contract. Assumes nothing.
use Rattle.panel.specs.ExplainedLaws.{explained_because, explained_refused}
use Rattle.panel.proofs.explained.rack_explain.Goals as goal

pub returns-in-Ok : goal.returns-in-Ok
returns-in-Ok c = search explained_because

pub returns-in-Err : goal.returns-in-Err
returns-in-Err c = search explained_refused
