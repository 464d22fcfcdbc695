-- `next_first` meets its contract. Assumes nothing.
use Rattle.json_file.specs.PhaseLaws.{first_rules}
use Rattle.json_file.proofs.phase.next_first.Goals as goal

pub returns-then-x-eq93 : goal.returns-then-x-eq93
returns-then-x-eq93 c = search first_rules

pub returns : goal.returns
returns c = search first_rules
