-- `grown` meets its contract. Assumes nothing.
use Rattle.json_file.specs.PhaseLaws.{grown_rules}
use Rattle.json_file.proofs.phase.grown.Goals as goal

pub returns-then-n-eq0 : goal.returns-then-n-eq0
returns-then-n-eq0 c = search grown_rules

pub returns-then-m-gt-GREATEST : goal.returns-then-m-gt-GREATEST
returns-then-m-gt-GREATEST c = search grown_rules

pub returns : goal.returns
returns c = search grown_rules
