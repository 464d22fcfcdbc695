-- `next_value` meets its contract. Assumes nothing.
use Rattle.json_file.specs.PhaseLaws.{value_rules}
use Rattle.json_file.proofs.phase.next_value.Goals as goal

pub returns-then-is_white : goal.returns-then-is_white
returns-then-is_white c = search value_rules

pub returns-then-is_digit : goal.returns-then-is_digit
returns-then-is_digit c = search value_rules

pub returns : goal.returns
returns c = search value_rules
