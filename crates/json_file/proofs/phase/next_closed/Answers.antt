-- `next_closed` meets its contract. Assumes nothing.
use Rattle.json_file.specs.PhaseLaws.{closed_rules}
use Rattle.json_file.proofs.phase.next_closed.Goals as goal

pub returns-then-x-eq93 : goal.returns-then-x-eq93
returns-then-x-eq93 c = search closed_rules

pub returns : goal.returns
returns c = search closed_rules
