-- `next_done` meets its contract. Assumes nothing.
use Rattle.json_file.specs.PhaseLaws.{done_rules}
use Rattle.json_file.proofs.phase.next_done.Goals as goal

pub returns-then-is_white : goal.returns-then-is_white
returns-then-is_white c = search done_rules

pub returns : goal.returns
returns c = search done_rules
