-- `awaited` meets its contract. Assumes nothing.
use Rattle.json_file.specs.PhaseLaws.{await_rules}
use Rattle.json_file.proofs.phase.awaited.Goals as goal

pub returns-then-is_white : goal.returns-then-is_white
returns-then-is_white c = search await_rules

pub returns-then-x-c : goal.returns-then-x-c
returns-then-x-c c = search await_rules

pub returns : goal.returns
returns c = search await_rules
