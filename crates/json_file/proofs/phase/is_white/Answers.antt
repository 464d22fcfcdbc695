-- `is_white` meets its contract. Assumes nothing.
use Rattle.json_file.specs.PhaseLaws.{white_rules}
use Rattle.json_file.proofs.phase.is_white.Goals as goal

pub returns-then-x-eq32 : goal.returns-then-x-eq32
returns-then-x-eq32 c = search white_rules

pub returns-then-x-eq9 : goal.returns-then-x-eq9
returns-then-x-eq9 c = search white_rules

pub returns-then-x-eq10 : goal.returns-then-x-eq10
returns-then-x-eq10 c = search white_rules

pub returns-then-x-eq13 : goal.returns-then-x-eq13
returns-then-x-eq13 c = search white_rules

pub returns : goal.returns
returns c = search white_rules
