-- `after` meets its contract. Assumes nothing.
use Rattle.json_file.specs.PhaseLaws.{after_rules}
use Rattle.json_file.proofs.phase.after.Goals as goal

pub returns-in-Start : goal.returns-in-Start
returns-in-Start c = search after_rules

pub returns-in-End : goal.returns-in-End
returns-in-End c = search after_rules

pub returns-in-Both : goal.returns-in-Both
returns-in-Both c = search after_rules
