-- `next_name` meets its contract. Assumes nothing.
use Rattle.json_file.specs.PhaseLaws.{name_rules}
use Rattle.json_file.proofs.phase.next_name.Goals as goal

pub returns-then-x-eq115 : goal.returns-then-x-eq115
returns-then-x-eq115 c = search name_rules

pub returns-then-x-eq101 : goal.returns-then-x-eq101
returns-then-x-eq101 c = search name_rules

pub returns-then-x-eq101-2 : goal.returns-then-x-eq101-2
returns-then-x-eq101-2 c = search name_rules

pub returns-then-x-eq115-2 : goal.returns-then-x-eq115-2
returns-then-x-eq115-2 c = search name_rules

pub returns-else-x-eq101 : goal.returns-else-x-eq101
returns-else-x-eq101 c = search name_rules

pub returns-else-x-eq101-2 : goal.returns-else-x-eq101-2
returns-else-x-eq101-2 c = search name_rules

pub returns-else-x-eq115-2 : goal.returns-else-x-eq115-2
returns-else-x-eq115-2 c = search name_rules
