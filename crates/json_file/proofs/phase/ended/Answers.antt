-- `ended` meets its contract. Assumes nothing.
use Rattle.json_file.specs.PhaseLaws.{ended_rules}
use Rattle.json_file.proofs.phase.ended.Goals as goal

pub returns-in-Start-w : goal.returns-in-Start-w
returns-in-Start-w c = search ended_rules

pub returns-in-End-w : goal.returns-in-End-w
returns-in-End-w c = search ended_rules

pub returns-in-Start : goal.returns-in-Start
returns-in-Start c = search ended_rules

pub returns-in-End : goal.returns-in-End
returns-in-End c = search ended_rules
