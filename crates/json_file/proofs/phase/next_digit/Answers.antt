-- `next_digit` meets its contract. Assumes nothing.
use Rattle.json_file.specs.PhaseLaws.{next-digit_rules}
use Rattle.json_file.proofs.phase.next_digit.Goals as goal

pub returns-then-is_digit : goal.returns-then-is_digit
returns-then-is_digit c = search next-digit_rules

pub returns : goal.returns
returns c = search next-digit_rules
