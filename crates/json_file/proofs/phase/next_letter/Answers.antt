-- `next_letter` meets its contract. Assumes nothing.
use Rattle.json_file.specs.PhaseLaws.{next-letter_rules}
use Rattle.json_file.proofs.phase.next_letter.Goals as goal

pub returns-then-x-c : goal.returns-then-x-c
returns-then-x-c c = search next-letter_rules

pub returns : goal.returns
returns c = search next-letter_rules
